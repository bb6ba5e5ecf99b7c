-- The errors of building: what each case carries, and how a list of them stands in the tables of errors and path keys.
use Rattle.std.specs.Prelude.{ℕ, ◌+◌, List, [], ◌∷◌, ◌++◌, length, Some, None, Option}
use Rattle.schema.specs.declared.answers.OperationType.{OperationType}
use Rattle.selection_rules.specs.declared.error.ExecutableDefinitionName.{ExecutableDefinitionName}
use Rattle.selection_rules.specs.declared.error.SelectionPath.{SelectionPath}
use Rattle.selection_rules.specs.declared.error.BuildError.{BuildError}
use Rattle.selection_rules.specs.declared.error.BuildError.TheVariants.{TypeSystemDefinition, AmbiguousAnonymousOperation, OperationNameCollision, FragmentNameCollision, UndefinedRootOperation, UndefinedTypeInNamedFragmentTypeCondition, UndefinedTypeInInlineFragmentTypeCondition, SubselectionOnScalarType, SubselectionOnEnumType, UndefinedField}

-- where in a document a selection stands: the definition, and the response keys of the open fields, the outermost first
pub record Path : Type 0 where
  pub root : ExecutableDefinitionName
  pub keys : List ℕ

-- the ten errors, each with what it carries, its location first
pub data Error : Type 0 where
  type_system_definition : (location name kind : ℕ) → Error
  ambiguous_anonymous_operation : (location : ℕ) → Error
  operation_name_collision : (location name previous : ℕ) → Error
  fragment_name_collision : (location name previous : ℕ) → Error
  undefined_root_operation : (location : ℕ) (operation : OperationType) → Error
  undefined_type_in_named_fragment : (location type-name fragment-name : ℕ) → Error
  undefined_type_in_inline_fragment : (location type-name : ℕ) (path : Path) → Error
  subselection_on_scalar_type : (location type-name : ℕ) (path : Path) → Error
  subselection_on_enum_type : (location type-name : ℕ) (path : Path) → Error
  undefined_field : (location type-name field-name : ℕ) (path : Path) → Error

-- the path keys of an error: only the last four have a path
abbrev pub keys_of : Error → List ℕ
keys_of (type_system_definition location name kind) = []
keys_of (ambiguous_anonymous_operation location) = []
keys_of (operation_name_collision location name previous) = []
keys_of (fragment_name_collision location name previous) = []
keys_of (undefined_root_operation location operation) = []
keys_of (undefined_type_in_named_fragment location type-name fragment-name) = []
keys_of (undefined_type_in_inline_fragment location type-name path) = path.keys
keys_of (subselection_on_scalar_type location type-name path) = path.keys
keys_of (subselection_on_enum_type location type-name path) = path.keys
keys_of (undefined_field location type-name field-name path) = path.keys

-- a path whose keys stand in their table from the place n on
abbrev pub path_at : ℕ → Path → SelectionPath
path_at n p = record { root = p.root; first_key = n; end_key = n + length p.keys }

-- an error as it is listed, where its path keys stand from the place n on
abbrev pub error_row : ℕ → Error → BuildError
error_row n (type_system_definition location name kind) = TypeSystemDefinition location name kind
error_row n (ambiguous_anonymous_operation location) = AmbiguousAnonymousOperation location
error_row n (operation_name_collision location name previous) = OperationNameCollision location name previous
error_row n (fragment_name_collision location name previous) = FragmentNameCollision location name previous
error_row n (undefined_root_operation location operation) = UndefinedRootOperation location operation
error_row n (undefined_type_in_named_fragment location type-name fragment-name) =
    UndefinedTypeInNamedFragmentTypeCondition location type-name fragment-name
error_row n (undefined_type_in_inline_fragment location type-name path) =
    UndefinedTypeInInlineFragmentTypeCondition location type-name (path_at n path)
error_row n (subselection_on_scalar_type location type-name path) = SubselectionOnScalarType location type-name (path_at n path)
error_row n (subselection_on_enum_type location type-name path) = SubselectionOnEnumType location type-name (path_at n path)
error_row n (undefined_field location type-name field-name path) = UndefinedField location type-name field-name (path_at n path)

-- the path keys of a list of errors, one path after the other
abbrev pub keys_in : List Error → List ℕ
keys_in [] = []
keys_in (e ∷ es) = keys_of e ++ keys_in es

-- the rows of a list of errors whose path keys stand from the place n on
abbrev pub error_rows : ℕ → List Error → List BuildError
error_rows n [] = []
error_rows n (e ∷ es) = error_row n e ∷ error_rows (n + length (keys_of e)) es

-- the number of a case
abbrev pub code_of : BuildError → ℕ
code_of (TypeSystemDefinition location name kind) = 1
code_of (AmbiguousAnonymousOperation location) = 2
code_of (OperationNameCollision location name previous) = 3
code_of (FragmentNameCollision location name previous) = 4
code_of (UndefinedRootOperation location operation) = 5
code_of (UndefinedTypeInNamedFragmentTypeCondition location type-name fragment-name) = 6
code_of (UndefinedTypeInInlineFragmentTypeCondition location type-name path) = 7
code_of (SubselectionOnScalarType location type-name path) = 8
code_of (SubselectionOnEnumType location type-name path) = 9
code_of (UndefinedField location type-name field-name path) = 10

-- the path that a listed error has, if it has one
abbrev pub path_of : BuildError → Option SelectionPath
path_of (TypeSystemDefinition location name kind) = None
path_of (AmbiguousAnonymousOperation location) = None
path_of (OperationNameCollision location name previous) = None
path_of (FragmentNameCollision location name previous) = None
path_of (UndefinedRootOperation location operation) = None
path_of (UndefinedTypeInNamedFragmentTypeCondition location type-name fragment-name) = None
path_of (UndefinedTypeInInlineFragmentTypeCondition location type-name path) = Some path
path_of (SubselectionOnScalarType location type-name path) = Some path
path_of (SubselectionOnEnumType location type-name path) = Some path
path_of (UndefinedField location type-name field-name path) = Some path

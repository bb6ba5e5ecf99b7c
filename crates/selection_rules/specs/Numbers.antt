-- The errors of building as numbers: the code of each case, and what it carries; 0 stands for what a case does not carry.
use Rattle.std.specs.Prelude.{ℕ}
use Rattle.schema.specs.Numbers.{operation_number}
use Rattle.selection_rules.specs.declared.error.ExecutableDefinitionName.{ExecutableDefinitionName}
use Rattle.selection_rules.specs.declared.error.ExecutableDefinitionName.TheVariants.{AnonymousOperation, NamedOperation, Fragment}
use Rattle.selection_rules.specs.declared.error.SelectionPath.{SelectionPath}
use Rattle.selection_rules.specs.declared.error.BuildError.{BuildError}
use Rattle.selection_rules.specs.declared.error.BuildError.TheVariants.{TypeSystemDefinition, AmbiguousAnonymousOperation, OperationNameCollision, FragmentNameCollision, UndefinedRootOperation, UndefinedTypeInNamedFragmentTypeCondition, UndefinedTypeInInlineFragmentTypeCondition, SubselectionOnScalarType, SubselectionOnEnumType, UndefinedField}
use Rattle.selection_rules.specs.declared.numbers.RootNumbers.{RootNumbers}
use Rattle.selection_rules.specs.declared.numbers.PathNumbers.{PathNumbers}
use Rattle.selection_rules.specs.declared.numbers.ErrorNumbers.{ErrorNumbers}

abbrev pub root_as : (kind operation-type root-name : ℕ) → RootNumbers
root_as kind operation-type root-name = record { kind = kind; operation_type = operation-type; name = root-name }

-- the definition that a path starts at: its kind (1 an operation, 2 a fragment), its operation type and its name
abbrev pub root_numbers : ExecutableDefinitionName → RootNumbers
root_numbers (AnonymousOperation operation) = root_as 1 (operation_number operation) 0
root_numbers (NamedOperation operation name) = root_as 1 (operation_number operation) name
root_numbers (Fragment name) = root_as 2 0 name

-- a path: the definition, and the range of its response keys
abbrev pub path_numbers : SelectionPath → PathNumbers
path_numbers p = record { root = root_numbers p.root; first_key = p.first_key; end_key = p.end_key }

abbrev pub no_path : PathNumbers
no_path = record { root = root_as 0 0 0; first_key = 0; end_key = 0 }

abbrev pub error_as :
    (code location operation-type kind first-name second-name second-location : ℕ) → PathNumbers → ErrorNumbers
error_as code location operation-type kind first-name second-name second-location path =
    record {
      code = code;
      location = location;
      operation_type = operation-type;
      kind = kind;
      first_name = first-name;
      second_name = second-name;
      second_location = second-location;
      path = path;
    }

-- each case: code, location, operation type, kind, first name, second name, second location, path
abbrev pub error_numbers : BuildError → ErrorNumbers
error_numbers (TypeSystemDefinition location name kind) = error_as 1 location 0 kind name 0 0 no_path
error_numbers (AmbiguousAnonymousOperation location) = error_as 2 location 0 0 0 0 0 no_path
error_numbers (OperationNameCollision location name previous) = error_as 3 location 0 0 name 0 previous no_path
error_numbers (FragmentNameCollision location name previous) = error_as 4 location 0 0 name 0 previous no_path
error_numbers (UndefinedRootOperation location operation) = error_as 5 location (operation_number operation) 0 0 0 0 no_path
error_numbers (UndefinedTypeInNamedFragmentTypeCondition location type-name fragment-name) =
    error_as 6 location 0 0 type-name fragment-name 0 no_path
error_numbers (UndefinedTypeInInlineFragmentTypeCondition location type-name path) =
    error_as 7 location 0 0 type-name 0 0 (path_numbers path)
error_numbers (SubselectionOnScalarType location type-name path) = error_as 8 location 0 0 type-name 0 0 (path_numbers path)
error_numbers (SubselectionOnEnumType location type-name path) = error_as 9 location 0 0 type-name 0 0 (path_numbers path)
error_numbers (UndefinedField location type-name field-name path) =
    error_as 10 location 0 0 type-name field-name 0 (path_numbers path)

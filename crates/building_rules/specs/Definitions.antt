-- The build of definitions: which are stored, in which type, and which errors are listed, in order.
use Rattle.std.specs.Prelude.{ℕ, Bool, true, false, cond, List, [], ◌∷◌, ◌++◌, Some, None, Option, ◌==◌}
use Rattle.layout.specs.Forest.{Forest}
use Rattle.document.specs.Rows.{Selection, Head, is_operation, is_fragment}
use Rattle.document.specs.Document.{Definition}
use Rattle.schema.specs.declared.answers.OperationType.{OperationType}
use Rattle.schema.specs.declared.answers.OperationType.TheVariants.{Query, Mutation, Subscription}
use Rattle.schema.specs.Meaning.{Meaning}
use Rattle.selection_rules.specs.declared.error.ExecutableDefinitionName.{ExecutableDefinitionName}
use Rattle.selection_rules.specs.declared.error.ExecutableDefinitionName.TheVariants.{AnonymousOperation, NamedOperation, Fragment}
use Rattle.selection_rules.specs.Stored.{Stored}
use Rattle.selection_rules.specs.Errors.{Path, Error, type_system_definition, ambiguous_anonymous_operation, operation_name_collision, fragment_name_collision, undefined_root_operation, undefined_type_in_named_fragment}
use Rattle.selection_rules.specs.Sets.{errors, build}

-- a definition of an accepted document, and whether the document was handed in strict: without definitions of the type
-- system
pub record Accepted : Type 0 where
  pub head : Head
  pub selected : Forest Selection
  pub strict : Bool

-- the definitions of one document
abbrev pub accepted_from : Bool → List Definition → List Accepted
accepted_from strict [] = []
accepted_from strict (d ∷ ds) = record { head = d.head; selected = d.selected; strict = strict } ∷ accepted_from strict ds

-- what a definition defines
pub data Role : Type 0 where
  anonymous_operation : Role
  named_operation : Role
  fragment : Role
  type_system : Role

-- kind 1 is an operation, anonymous if it has no name; 2 a fragment; every other kind is of the type system
abbrev pub role_of : Head → Role
role_of h = cond (is_operation h) (cond (h.name == 0) anonymous_operation named_operation) (cond (is_fragment h) fragment type_system)

-- the type of an operation: 0 query, 1 mutation, else subscription
abbrev pub operation_of : Head → OperationType
operation_of h = cond (h.operation_type == 0) Query (cond (h.operation_type == 1) Mutation Subscription)

-- where the path of a selection starts; no path starts at the type system
abbrev pub root_name_of : Role → Head → ExecutableDefinitionName
root_name_of anonymous_operation h = AnonymousOperation (operation_of h)
root_name_of named_operation h = NamedOperation (operation_of h) h.name
root_name_of fragment h = Fragment h.name
root_name_of type_system h = Fragment h.name

abbrev pub root_name : Head → ExecutableDefinitionName
root_name h = root_name_of (role_of h) h

-- the path of a definition's selections: no field is open
abbrev pub start_path : Head → Path
start_path h = record { root = root_name h; keys = [] }

-- a stored definition: its head, the type around its selections, which is a root or a condition, and its stored selections
pub record Kept : Type 0 where
  pub head : Head
  pub set_type : ℕ
  pub rows : Forest Stored

-- a name that is taken, and where it stands
pub record Taken : Type 0 where
  pub name : ℕ
  pub location : ℕ

abbrev pub taken : Head → Taken
taken h = record { name = h.name; location = h.name_location }

-- where a name is taken
abbrev pub taken_at : ℕ → List Taken → Option ℕ
taken_at n [] = None
taken_at n (t ∷ ts) = cond (n == t.name) (Some t.location) (taken_at n ts)

-- what the rules read of the definitions that are stored: the location of the anonymous operation, whether a further
-- anonymous one came after it, and the names that are taken, the latest first
pub record State : Type 0 where
  pub anonymous : Option ℕ
  pub multiple : Bool
  pub operations : List Taken
  pub fragments : List Taken

abbrev pub fresh : State
fresh = record { anonymous = None; multiple = false; operations = []; fragments = [] }

abbrev pub with_anonymous : State → Head → State
with_anonymous s h =
    record { anonymous = Some h.location; multiple = s.multiple; operations = s.operations; fragments = s.fragments }

abbrev pub with_operation : State → Head → State
with_operation s h =
    record { anonymous = s.anonymous; multiple = s.multiple; operations = taken h ∷ s.operations; fragments = s.fragments }

abbrev pub with_fragment : State → Head → State
with_fragment s h =
    record { anonymous = s.anonymous; multiple = s.multiple; operations = s.operations; fragments = taken h ∷ s.fragments }

abbrev pub with_multiple : State → State
with_multiple s = record { anonymous = s.anonymous; multiple = true; operations = s.operations; fragments = s.fragments }

-- what one definition comes to
pub record Outcome : Type 0 where
  pub errors : List Error
  pub kept : List Kept
  pub next : State

-- a definition that is left out with an error
abbrev pub left_out : Error → State → Outcome
left_out e s = record { errors = e ∷ []; kept = []; next = s }

-- a definition that is stored with the type `around` around its selections
abbrev pub stored : Meaning → Accepted → ℕ → State → Outcome
stored m d around next =
    record {
      errors = errors m (start_path d.head) around d.selected;
      kept = record { head = d.head; set_type = around; rows = build m around d.selected } ∷ [];
      next = next;
    }

-- section 3.3.1: an operation that nothing stands against has the root of its type around its selections
abbrev pub rooted : Meaning → Accepted → Option ℕ → State → State → Outcome
rooted m d None s next = left_out (undefined_root_operation d.head.location (operation_of d.head)) s
rooted m d (Some around) s next = stored m d around next

-- section 5.2.2.1: an anonymous operation is the only operation. By the anonymous one that is stored and the named ones:
-- the stored one is told of once
abbrev pub add_anonymous : Meaning → State → Accepted → Option ℕ → List Taken → Outcome
add_anonymous m s d (Some at) names =
    record {
      errors = cond s.multiple [] (ambiguous_anonymous_operation at ∷ []) ++ (ambiguous_anonymous_operation d.head.location ∷ []);
      kept = [];
      next = with_multiple s;
    }
add_anonymous m s d None (n ∷ names) = left_out (ambiguous_anonymous_operation d.head.location) s
add_anonymous m s d None [] = rooted m d (m.root (operation_of d.head)) s (with_anonymous s d.head)

-- section 5.2.1.1: the names of operations are unique. A named operation, by where its name is taken
abbrev pub add_named : Meaning → State → Accepted → Option ℕ → Outcome
add_named m s d (Some at) = left_out (operation_name_collision d.head.name_location d.head.name at) s
add_named m s d None = rooted m d (m.root (operation_of d.head)) s (with_operation s d.head)

-- the anonymous operation that is stored is ambiguous beside a named one
abbrev pub beside : Option ℕ → List Error
beside None = []
beside (Some at) = ambiguous_anonymous_operation at ∷ []

abbrev pub before : List Error → Outcome → Outcome
before es o = record { errors = es ++ o.errors; kept = o.kept; next = o.next }

-- sections 5.5.1.1 and 5.5.1.2: the names of fragments are unique, and the type that one is on is known. A fragment, by
-- where its name is taken and whether its condition is known
abbrev pub add_fragment : Meaning → State → Accepted → Option ℕ → Bool → Outcome
add_fragment m s d (Some at) known = left_out (fragment_name_collision d.head.name_location d.head.name at) s
add_fragment m s d None false =
    left_out (undefined_type_in_named_fragment d.head.condition_location d.head.condition d.head.name) s
add_fragment m s d None true = stored m d d.head.condition (with_fragment s d.head)

-- section 5.1.1: a document handed in strict has only operations and fragments
abbrev pub add_type_system : State → Accepted → Outcome
add_type_system s d =
    record {
      errors = cond d.strict (type_system_definition d.head.location d.head.name d.head.kind ∷ []) [];
      kept = [];
      next = s;
    }

abbrev pub step_of : Role → Meaning → State → Accepted → Outcome
step_of anonymous_operation m s d = add_anonymous m s d s.anonymous s.operations
step_of named_operation m s d = before (beside s.anonymous) (add_named m s d (taken_at d.head.name s.operations))
step_of fragment m s d = add_fragment m s d (taken_at d.head.name s.fragments) (m.known d.head.condition)
step_of type_system m s d = add_type_system s d

-- one definition, after the ones that led to the state s
abbrev pub step : Meaning → State → Accepted → Outcome
step m s d = step_of (role_of d.head) m s d

-- the errors that definitions list from a state on, in their order, what is kept of them, and the state after them
abbrev pub errors_from : Meaning → State → List Accepted → List Error
errors_from m s [] = []
errors_from m s (d ∷ ds) = (step m s d).errors ++ errors_from m (step m s d).next ds

abbrev pub kept_from : Meaning → State → List Accepted → List Kept
kept_from m s [] = []
kept_from m s (d ∷ ds) = (step m s d).kept ++ kept_from m (step m s d).next ds

abbrev pub state_after : Meaning → State → List Accepted → State
state_after m s [] = s
state_after m s (d ∷ ds) = state_after m (step m s d).next ds

-- from the start
abbrev pub errors_in : Meaning → List Accepted → List Error
errors_in m ds = errors_from m fresh ds

abbrev pub kept_in : Meaning → List Accepted → List Kept
kept_in m ds = kept_from m fresh ds

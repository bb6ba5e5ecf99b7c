-- What becomes of a definition before its selections are looked at: its own errors, and whether it is stored, in which type.
use Rattle.std.specs.Prelude.{◌≡◌, ℕ, zero, suc, Bool, true, false, cond, List, [], ◌∷◌, ◌++◌, Some, None, Option}
use Rattle.document.specs.Rows.{Head}
use Rattle.schema.specs.Names.{name_or_none}
use Rattle.schema.specs.Meaning.{Meaning}
use Rattle.selection_rules.specs.declared.error.BuildError.{BuildError}
use Rattle.selection_rules.specs.Errors.{Error, type_system_definition, ambiguous_anonymous_operation, operation_name_collision, fragment_name_collision, undefined_root_operation, undefined_type_in_named_fragment, error_rows}
use Rattle.building_rules.specs.Definitions.{Role, anonymous_operation, named_operation, fragment, type_system, role_of, operation_of, Taken, taken_at, State, beside}
use Rattle.selection_rules.specs.declared.error.BuildError.TheVariants.{AmbiguousAnonymousOperation, OperationNameCollision, FragmentNameCollision, UndefinedRootOperation, UndefinedTypeInNamedFragmentTypeCondition}
use Rattle.builder.specs.declared.ruling.Ruling.{Ruling}
use Rattle.builder.specs.declared.ruling.StoredOperations.{StoredOperations}
use Rattle.builder.specs.declared.ruling.StoredOperations.TheVariants.{Neither, AnonymousOnly, NamedOnly, Both}

-- which operations are stored, by the location of the anonymous one and the number of the named ones
abbrev pub operations_stored : Option ℕ → ℕ → StoredOperations
operations_stored None zero = Neither
operations_stored None (suc n) = NamedOnly
operations_stored (Some at) zero = AnonymousOnly at
operations_stored (Some at) (suc n) = Both at

-- the name of an operation that arrives, if it has one
abbrev pub arriving_name : Head → Option ℕ
arriving_name h = name_or_none h.name

-- without a root an operation is left out
abbrev pub root_errors : Option ℕ → Head → List Error
root_errors None h = undefined_root_operation h.location (operation_of h) ∷ []
root_errors (Some root) h = []

abbrev pub anonymous_errors : Meaning → Option ℕ → Bool → List Taken → Head → List Error
anonymous_errors m (Some at) multiple names h =
    cond multiple [] (ambiguous_anonymous_operation at ∷ []) ++ (ambiguous_anonymous_operation h.location ∷ [])
anonymous_errors m None multiple (n ∷ names) h = ambiguous_anonymous_operation h.location ∷ []
anonymous_errors m None multiple [] h = root_errors (m.root (operation_of h)) h

abbrev pub name_errors : Meaning → Option ℕ → Head → List Error
name_errors m (Some at) h = operation_name_collision h.name_location h.name at ∷ []
name_errors m None h = root_errors (m.root (operation_of h)) h

abbrev pub fragment_errors : Option ℕ → Bool → Head → List Error
fragment_errors (Some at) known h = fragment_name_collision h.name_location h.name at ∷ []
fragment_errors None false h = undefined_type_in_named_fragment h.condition_location h.condition h.name ∷ []
fragment_errors None true h = []

abbrev pub own_errors_as : Role → Meaning → State → Head → Bool → List Error
own_errors_as anonymous_operation m s h strict = anonymous_errors m s.anonymous s.multiple s.operations h
own_errors_as named_operation m s h strict = beside s.anonymous ++ name_errors m (taken_at h.name s.operations) h
own_errors_as fragment m s h strict = fragment_errors (taken_at h.name s.fragments) (m.known h.condition) h
own_errors_as type_system m s h strict = cond strict (type_system_definition h.location h.name h.kind ∷ []) []

-- the errors of a definition itself, from the state before it
abbrev pub own_errors : Meaning → State → Head → Bool → List Error
own_errors m s h strict = own_errors_as (role_of h) m s h strict

abbrev pub lone_root : Meaning → Option ℕ → List Taken → Head → Option ℕ
lone_root m (Some at) names h = None
lone_root m None (n ∷ names) h = None
lone_root m None [] h = m.root (operation_of h)

abbrev pub named_root : Meaning → Option ℕ → Head → Option ℕ
named_root m (Some at) h = None
named_root m None h = m.root (operation_of h)

abbrev pub fragment_type : Option ℕ → Bool → Head → Option ℕ
fragment_type (Some at) known h = None
fragment_type None false h = None
fragment_type None true h = Some h.condition

abbrev pub set_type_as : Role → Meaning → State → Head → Option ℕ
set_type_as anonymous_operation m s h = lone_root m s.anonymous s.operations h
set_type_as named_operation m s h = named_root m (taken_at h.name s.operations) h
set_type_as fragment m s h = fragment_type (taken_at h.name s.fragments) (m.known h.condition) h
set_type_as type_system m s h = None

-- the type around the definition's selections, where it is stored
abbrev pub set_type_for : Meaning → State → Head → Option ℕ
set_type_for m s h = set_type_as (role_of h) m s h

abbrev pub now_multiple : Role → Option ℕ → Bool → Bool
now_multiple anonymous_operation (Some at) multiple = true
now_multiple anonymous_operation None multiple = multiple
now_multiple named_operation a multiple = multiple
now_multiple fragment a multiple = multiple
now_multiple type_system a multiple = multiple

abbrev pub missing_root : Option ℕ → Head → Option BuildError
missing_root None h = Some (UndefinedRootOperation h.location (operation_of h))
missing_root (Some root) h = None

-- what is ruled of an operation that nothing stands against
abbrev pub root_ruling : Option BuildError → Bool → Option ℕ → Head → Ruling
root_ruling first multiple root h = record { first = first; second = missing_root root h; set_type = root; multiple_anonymous = multiple }

abbrev pub named_ruling : Meaning → Option BuildError → Bool → Option ℕ → Head → Ruling
named_ruling m first multiple (Some at) h =
    record { first = first; second = Some (OperationNameCollision h.name_location h.name at); set_type = None; multiple_anonymous = multiple }
named_ruling m first multiple None h = root_ruling first multiple (m.root (operation_of h)) h

abbrev pub further_ruling : Bool → ℕ → Head → Ruling
further_ruling multiple at h =
    record {
      first = cond multiple None (Some (AmbiguousAnonymousOperation at));
      second = Some (AmbiguousAnonymousOperation h.location);
      set_type = None;
      multiple_anonymous = true;
    }

-- what is ruled of an operation, by the operations that are stored and where its name is taken
abbrev pub operation_ruling : Meaning → Bool → Option ℕ → Head → StoredOperations → Option ℕ → Ruling
operation_ruling m multiple taken h Neither None = root_ruling None multiple (m.root (operation_of h)) h
operation_ruling m multiple taken h NamedOnly None =
    record { first = Some (AmbiguousAnonymousOperation h.location); second = None; set_type = None; multiple_anonymous = multiple }
operation_ruling m multiple taken h (AnonymousOnly at) None = further_ruling multiple at h
operation_ruling m multiple taken h (Both at) None = further_ruling multiple at h
operation_ruling m multiple taken h Neither (Some name) = named_ruling m None multiple taken h
operation_ruling m multiple taken h NamedOnly (Some name) = named_ruling m None multiple taken h
operation_ruling m multiple taken h (AnonymousOnly at) (Some name) = named_ruling m (Some (AmbiguousAnonymousOperation at)) multiple taken h
operation_ruling m multiple taken h (Both at) (Some name) = named_ruling m (Some (AmbiguousAnonymousOperation at)) multiple taken h

-- what is ruled of a fragment, by where its name is taken and whether its condition is known
abbrev pub fragment_ruling : Bool → Option ℕ → Bool → Head → Ruling
fragment_ruling multiple (Some at) known h =
    record { first = Some (FragmentNameCollision h.name_location h.name at); second = None; set_type = None; multiple_anonymous = multiple }
fragment_ruling multiple None true h = record { first = None; second = None; set_type = Some h.condition; multiple_anonymous = multiple }
fragment_ruling multiple None false h =
    record {
      first = Some (UndefinedTypeInNamedFragmentTypeCondition h.condition_location h.condition h.name);
      second = None;
      set_type = None;
      multiple_anonymous = multiple;
    }

abbrev pub maybe : {A : Type 0} → Option A → List A → List A
maybe None xs = xs
maybe (Some x) xs = x ∷ xs

-- the errors that a ruling tells
abbrev pub told : Ruling → List BuildError
told r = maybe r.first (maybe r.second [])

-- a ruling says what the rules say of a definition
pub record Ruled (m : Meaning) (s : State) (h : Head) (strict : Bool) (r : Ruling) : Type 0 where
  pub errors : told r ≡ error_rows 0 (own_errors m s h strict)
  pub stored : r.set_type ≡ set_type_for m s h
  pub multiple : r.multiple_anonymous ≡ now_multiple (role_of h) s.anonymous s.multiple

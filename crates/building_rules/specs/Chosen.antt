-- Which definitions are kept, told by those that are kept before them.
use Rattle.std.specs.Prelude.{◌≡◌, ℕ, Bool, true, false, ◌≢◌, ◌↔◌, List, [], ◌∷◌, ◌++◌, Some}
use Rattle.std.specs.List.{AllByRecursion}
use Rattle.schema.specs.Meaning.{Meaning}
use Rattle.selection_rules.specs.Sets.{build}
use Rattle.building_rules.specs.Definitions.{Accepted, Kept, Role, anonymous_operation, named_operation, fragment, role_of, operation_of, kept_in}
use Rattle.building_rules.specs.Rules.{operation_role, named_role, fragment_role}

-- a definition as it is kept, with the type `around` around its selections
abbrev pub kept_with : Meaning → Accepted → ℕ → Kept
kept_with m d around = record { head = d.head; set_type = around; rows = build m around d.selected }

-- no operation is kept
abbrev pub NoOperation : List Kept → Type 0
NoOperation ks = AllByRecursion (λ k. operation_role (role_of k.head) ≡ false) ks

-- none of the role has the name
abbrev pub NoneNamed : (Role → Bool) → ℕ → List Kept → Type 0
NoneNamed test n ks = AllByRecursion (λ k. test (role_of k.head) ≡ true → k.head.name ≢ n) ks

-- Behind the kept definitions `before`, the definition d is to be kept, with the type `around` around its selections: an
-- anonymous operation behind no operation, and a named one behind none of its name, if the schema has the root of its
-- type, which is that type; a fragment behind none of its name, if its condition is known, which is that type.
pub data ToKeep (m : Meaning) (before : List Kept) (d : Accepted) : ℕ → Type 0 where
  anonymous : (around : ℕ) → role_of d.head ≡ anonymous_operation → NoOperation before → m.root (operation_of d.head) ≡ Some around → ToKeep m before d around
  named : (around : ℕ) → role_of d.head ≡ named_operation → NoneNamed named_role d.head.name before → m.root (operation_of d.head) ≡ Some around → ToKeep m before d around
  on_condition : role_of d.head ≡ fragment → NoneNamed fragment_role d.head.name before → m.known d.head.condition ≡ true → ToKeep m before d d.head.condition

-- behind the kept definitions `before`, the definitions `ks` are kept of those that come: each that is to be kept, in
-- order, and no other
pub data Chosen (m : Meaning) : List Kept → List Accepted → List Kept → Type 0 where
  nothing : {before : List Kept} → Chosen m before [] []
  kept : {before : List Kept} {d : Accepted} {ds : List Accepted} {ks : List Kept} (around : ℕ)
      → ToKeep m before d around → Chosen m (before ++ kept_with m d around ∷ []) ds ks → Chosen m before (d ∷ ds) (kept_with m d around ∷ ks)
  left_out : {before : List Kept} {d : Accepted} {ds : List Accepted} {ks : List Kept}
      → ((around : ℕ) → ToKeep m before d around → ⊥) → Chosen m before ds ks → Chosen m before (d ∷ ds) ks

-- what is kept are the chosen definitions, and they are the only ones
abbrev pub KeptAreChosen : Type 0
KeptAreChosen = (m : Meaning) (ds : List Accepted) (ks : List Kept) → Chosen m [] ds ks ↔ (ks ≡ kept_in m ds)

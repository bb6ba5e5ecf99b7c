-- What every stored definition keeps, whatever was handed in: the rules of its members, one name for each table, one
-- anonymous operation.
use Rattle.std.specs.Prelude.{◌≡◌, ℕ, ◌+◌, ◌≤◌, Bool, true, false, cond, List, [], ◌∷◌, ◌==◌}
use Rattle.std.specs.List.{AllByRecursion}
use Rattle.layout.specs.Forest.{depth, Each}
use Rattle.layout.specs.Shapes.{Keeps}
use Rattle.document.specs.Rows.{selection_rules, head_unnamed, head_broken}
use Rattle.schema.specs.Meaning.{Meaning}
use Rattle.selection_rules.specs.Stored.{stored_rules}
use Rattle.building_rules.specs.Definitions.{Accepted, Kept, Role, role_of, kept_in}
use Rattle.building_rules.specs.Rules.{anonymous_role, named_role, fragment_role, operation_role}

-- a definition of an accepted document keeps the rules of documents
pub record Sound (d : Accepted) : Type 0 where
  pub named : head_unnamed d.head ≡ false
  pub whole : head_broken d.head ≡ false
  pub selections : Each (Keeps selection_rules) d.selected
  pub shallow : depth d.selected ≤ 32

-- a kept definition keeps the rules of what is stored: it is an operation or a fragment, a fragment's set type is its
-- condition, and its rows keep the rules of stored rows, at most 32 one beneath the other
pub record Storable (k : Kept) : Type 0 where
  pub named : head_unnamed k.head ≡ false
  pub whole : head_broken k.head ≡ false
  pub executable : operation_role (role_of k.head) ≡ false → fragment_role (role_of k.head) ≡ true
  pub condition : fragment_role (role_of k.head) ≡ true → k.set_type ≡ k.head.condition
  pub rows : Each (Keeps stored_rules) k.rows
  pub shallow : depth k.rows ≤ 32

-- how many kept definitions of a role have the name
abbrev pub kept_named : (Role → Bool) → ℕ → List Kept → ℕ
kept_named test n [] = 0
kept_named test n (k ∷ ks) = cond (test (role_of k.head)) (cond (k.head.name == n) 1 0) 0 + kept_named test n ks

-- kept definitions that can stand in tables: the names of the named operations differ, and those of the fragments; and one
-- operation at most has no name
pub record AllStorable (ks : List Kept) : Type 0 where
  pub each : AllByRecursion Storable ks
  pub operations : (n : ℕ) → kept_named named_role n ks ≤ 1
  pub fragments : (n : ℕ) → kept_named fragment_role n ks ≤ 1
  pub anonymous : (n : ℕ) → kept_named anonymous_role n ks ≤ 1

-- what is kept of accepted definitions can stand in tables
abbrev pub KeptIsStorable : Type 0
KeptIsStorable = (m : Meaning) (ds : List Accepted) → AllByRecursion Sound ds → AllStorable (kept_in m ds)

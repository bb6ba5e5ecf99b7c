-- Where in the tables a kept definition stands, told by its number among all that are kept, and where a kept row does.
use Rattle.std.specs.Prelude.{◌≡◌, ℕ, suc, ◌<◌, Bool, true, ◌↔◌, List, map, filter, length, take, Contains, slice_index, Some}
use Rattle.std.specs.List.{range_with_len}
use Rattle.std.specs.List.Sorted.{IsStrictlyIncreasing}
use Rattle.selection_rules.specs.Stored.{stored_of}
use Rattle.building_rules.specs.Definitions.{Kept, Role, role_of}
use Rattle.building_rules.specs.Rules.{anonymous_role, named_role, fragment_role}
use Rattle.building_rules.specs.Bounds.{rows_kept}
use Rattle.stored_tables.specs.declared.definition.StoredDefinition.{StoredDefinition}
use Rattle.stored_tables.specs.declared.stored.StoredDocument.{StoredDocument}
use Rattle.stored_tables.specs.Layout.{laid_out, those_of}
use Rattle.stored_tables.specs.Verdict.{definition_at}
use Rattle.finished_rules.specs.Tables.{HoldsKept}
use Rattle.finished_rules.specs.Reaches.{kept_rows, kept_at}

-- the kept definition with a number, as it stands in a table: its rows begin behind those of the definitions before it
abbrev pub entry : List Kept → ℕ → StoredDefinition
entry ks n = laid_out (rows_kept (take n ks)) (kept_at ks n)

-- the kept definition with this number has a role that passes the test
abbrev pub has_role : (Role → Bool) → List Kept → ℕ → Bool
has_role test ks n = test (role_of (kept_at ks n).head)

-- the numbers of the kept definitions whose role passes the test, in their order
abbrev pub numbers : (Role → Bool) → List Kept → List ℕ
numbers test ks = filter (has_role test ks) (range_with_len 0 (length ks))

-- the table of a role has an entry for each kept definition of the role, once and in order
pub record Numbered (test : Role → Bool) (ks : List Kept) : Type 0 where
  pub entries : those_of test 0 ks ≡ map (entry ks) (numbers test ks)
  pub each : (n : ℕ) → Contains (numbers test ks) n ↔ (n < length ks) × (has_role test ks n ≡ true)
  pub rising : IsStrictlyIncreasing (numbers test ks)

-- the stored definition s is the entry of the kept definition with the number n, whose role passes the test
pub record EntryOf (test : Role → Bool) (ks : List Kept) (s : StoredDefinition) (n : ℕ) : Type 0 where
  pub there : n < length ks
  pub role : has_role test ks n ≡ true
  pub laid : s ≡ entry ks n

-- the places of tables that hold the kept definitions
pub record PlacesAre (ks : List Kept) (d : StoredDocument) : Type 0 where
  -- a row's place in the table is its place among all kept rows
  pub rows : map stored_of d.rows.now ≡ kept_rows ks
  -- a definition's range ends where the next one's begins
  pub ranges : (n : ℕ) → n < length ks → (entry ks n).row.end ≡ rows_kept (take (suc n) ks)
  pub numbered : (test : Role → Bool) → Numbered test ks
  pub operations : (i : ℕ) → i < length d.operations.now → EntryOf named_role ks (definition_at d.operations.now i) (slice_index (numbers named_role ks) i)
  pub fragments : (i : ℕ) → i < length d.fragments.now → EntryOf fragment_role ks (definition_at d.fragments.now i) (slice_index (numbers fragment_role ks) i)
  pub anonymous : (s : StoredDefinition) → d.anonymous ≡ Some s → (n : ℕ) × EntryOf anonymous_role ks s n

abbrev pub TablePlaces : Type 0
TablePlaces = (ks : List Kept) (d : StoredDocument) → HoldsKept ks d → PlacesAre ks d

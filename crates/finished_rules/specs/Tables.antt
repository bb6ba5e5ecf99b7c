-- The definitions that stand in tables are those that are kept.
use Rattle.std.specs.Prelude.{◌≡◌, List, None, map, filter, Bool}
use Rattle.selection_rules.specs.declared.stored.StoredRow.{StoredRow}
use Rattle.building_rules.specs.Definitions.{Kept, Role, role_of}
use Rattle.building_rules.specs.Rules.{anonymous_role, named_role, fragment_role}
use Rattle.building_rules.specs.Storable.{AllStorable}
use Rattle.stored_tables.specs.declared.definition.StoredDefinition.{StoredDefinition}
use Rattle.stored_tables.specs.declared.stored.StoredDocument.{StoredDocument}
use Rattle.stored_tables.specs.Layout.{stored_head, rows_of, operations_of, fragments_of, anonymous_of}
use Rattle.stored_tables.specs.Verdict.{alone}
use Rattle.finished_rules.specs.SameTables.{rows_in}

-- a stored definition, read back with the rows in its range
abbrev pub read_back : List StoredRow → StoredDefinition → Kept
read_back rows d = record { head = stored_head d; set_type = d.set_type; rows = rows_in rows d }

-- the kept definitions whose role passes the test, in their order
abbrev pub kept_as : (Role → Bool) → List Kept → List Kept
kept_as test ks = filter (λ k. test (role_of k.head)) ks

-- the tables hold the kept definitions, laid out
pub record HoldsKept (ks : List Kept) (d : StoredDocument) : Type 0 where
  pub anonymous : d.anonymous ≡ anonymous_of None 0 ks
  pub operations : d.operations.now ≡ operations_of 0 ks
  pub fragments : d.fragments.now ≡ fragments_of 0 ks
  pub rows : d.rows.now ≡ rows_of 0 ks

-- what is read back from the tables is each of the kept definitions, by its role and in its order
pub record ReadsBack (ks : List Kept) (d : StoredDocument) : Type 0 where
  pub anonymous : map (read_back d.rows.now) (alone d.anonymous) ≡ kept_as anonymous_role ks
  pub operations : map (read_back d.rows.now) d.operations.now ≡ kept_as named_role ks
  pub fragments : map (read_back d.rows.now) d.fragments.now ≡ kept_as fragment_role ks

abbrev pub TablesReadBack : Type 0
TablesReadBack = (ks : List Kept) (d : StoredDocument) → AllStorable ks → HoldsKept ks d → ReadsBack ks d

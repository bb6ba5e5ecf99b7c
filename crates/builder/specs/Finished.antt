-- A finished document: what stands in its tables, and what it came out of.
use Rattle.std.specs.Prelude.{◌≡◌, ◌≤◌, Bool, false, ◌||◌, List, map, length, take, None, nat_lt}
use Rattle.std.specs.List.{AllByRecursion}
use Rattle.ordered_index.specs.Keys.{same_name, name_hash}
use Rattle.ordered_index.specs.Sound.{Sound}
use Rattle.schema.specs.Meaning.{Meaning}
use Rattle.building_rules.specs.Definitions.{Kept}
use Rattle.building_rules.specs.Calls.{Call, accepted, kept}
use Rattle.building_rules.specs.Storable.{Sound as SoundDefinition}
use Rattle.stored_tables.specs.declared.tables.Tables.{Tables}
use Rattle.stored_tables.specs.Layout.{name_of, rows_of, operations_of, fragments_of, anonymous_of}
use Rattle.stored_tables.specs.Verdict.{fault_of}
use Rattle.finished_tables.specs.declared.indexed.IndexedDocument.{IndexedDocument}
use Rattle.finished_tables.specs.Indexes.{HasIndexes}
use Rattle.finished_rules.specs.Tables.{HoldsKept}
use Rattle.builder.specs.declared.executable.ExecutableDocument.{ExecutableDocument}

-- whether a table is shorter than what is stored in it
abbrev pub finished_short : {S : Type 0} → ExecutableDocument S → Tables → Bool
finished_short d t =
    nat_lt (length t.operations.now) d.operations || (nat_lt (length t.fragments.now) d.fragments || nat_lt (length t.rows.now) d.rows)

-- what is read of the tables: the definitions and rows in use, and of each index the first 512 slots
pub record ReadFrom {S : Type 0} (d : ExecutableDocument S) (t : Tables) (x : IndexedDocument) : Type 0 where
  pub long : finished_short d t ≡ false
  pub anonymous : x.stored.anonymous ≡ d.anonymous
  pub operations : x.stored.operations.now ≡ take d.operations t.operations.now
  pub fragments : x.stored.fragments.now ≡ take d.fragments t.fragments.now
  pub rows : x.stored.rows.now ≡ take d.rows t.rows.now
  pub operation_slots : x.operation_slots.now ≡ take 512 t.operation_slots.now
  pub fragment_slots : x.fragment_slots.now ≡ take 512 t.fragment_slots.now

-- over a schema that means m, the document and its tables came out of these calls
pub record Finished {S : Type 0} (meaning : S → Meaning) (m : Meaning) (calls : List Call) (d : ExecutableDocument S) (t : Tables) : Type 0 where
  pub schema : meaning d.schema.now ≡ m
  pub sound : AllByRecursion SoundDefinition (accepted calls)
  pub long : finished_short d t ≡ false
  pub anonymous : d.anonymous ≡ anonymous_of None 0 (kept m calls)
  pub operations : take d.operations t.operations.now ≡ operations_of 0 (kept m calls)
  pub fragments : take d.fragments t.fragments.now ≡ fragments_of 0 (kept m calls)
  pub rows : take d.rows t.rows.now ≡ rows_of 0 (kept m calls)
  pub operation_slots : 512 ≤ length t.operation_slots.now
  pub operation_index : Sound same_name name_hash (map name_of (take d.operations t.operations.now)) (take 512 t.operation_slots.now)
  pub fragment_slots : 512 ≤ length t.fragment_slots.now
  pub fragment_index : Sound same_name name_hash (map name_of (take d.fragments t.fragments.now)) (take 512 t.fragment_slots.now)

-- tables that hold what is kept, without a fault, and with their indexes
pub record IsFinished (ks : List Kept) (x : IndexedDocument) : Type 0 where
  pub holds : HoldsKept ks x.stored
  pub clean : fault_of x.stored ≡ None
  pub indexes : HasIndexes x

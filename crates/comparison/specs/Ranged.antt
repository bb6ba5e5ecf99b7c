-- What the comparison asks of two tables, once both documents are checked: that rows are those of a forest, and that the
-- slots are the index of the names.
use Rattle.std.specs.Prelude.{ℕ, ◌≤◌, List, map, length, All, Some, None, Option}
use Rattle.ordered_index.specs.Keys.{same_name, name_hash}
use Rattle.ordered_index.specs.Sound.{Sound}
use Rattle.layout.specs.Forest.{Forest}
use Rattle.layout.specs.Shapes.{Stand}
use Rattle.selection_rules.specs.declared.stored.StoredRow.{StoredRow}
use Rattle.selection_rules.specs.Stored.{Stored, stored_selections}
use Rattle.stored_tables.specs.declared.definition.StoredDefinition.{StoredDefinition}
use Rattle.stored_tables.specs.Layout.{name_of}
use Rattle.finished_tables.specs.declared.indexed.IndexedDocument.{IndexedDocument}
use Rattle.comparison.specs.declared.tables.DefinitionTable.{DefinitionTable}

-- the rows from i up to e are those of a forest
pub record Ranged (rows : List StoredRow) (i e : ℕ) : Type 0 where
  pub within : e ≤ length rows
  pub forest : Forest Stored
  pub stand : Stand stored_selections rows i e forest

-- the rows in the range of a definition are those of a forest
abbrev pub RangedIn : List StoredRow → StoredDefinition → Type 0
RangedIn rows d = Ranged rows d.row.first d.row.end

abbrev pub RangedIf : List StoredRow → Option StoredDefinition → Type 0
RangedIf rows None = Unit {0}
RangedIf rows (Some d) = RangedIn rows d

-- a table of definitions with its index and its rows
pub record Ready (t : DefinitionTable) : Type 0 where
  pub indexed : Sound same_name name_hash (map name_of t.definitions.now) t.slots.now
  pub ranged : All (RangedIn t.rows.now) t.definitions.now

-- the named operations of a document, and its fragments, as tables
abbrev pub operation_table : IndexedDocument → DefinitionTable
operation_table d = record { definitions = d.stored.operations; slots = d.operation_slots; rows = d.stored.rows }

abbrev pub fragment_table : IndexedDocument → DefinitionTable
fragment_table d = record { definitions = d.stored.fragments; slots = d.fragment_slots; rows = d.stored.rows }

-- a document whose tables are in order
pub record ReadyDocument (d : IndexedDocument) : Type 0 where
  pub anonymous : RangedIf d.stored.rows.now d.stored.anonymous
  pub operations : Ready (operation_table d)
  pub fragments : Ready (fragment_table d)

-- When an operation is introspection only.
use Rattle.std.specs.Prelude.{◌≡◌, ℕ, ◌≤◌, List}
use Rattle.stored_tables.specs.declared.definition.StoredDefinition.{StoredDefinition}
use Rattle.stored_tables.specs.declared.stored.StoredDocument.{StoredDocument}
use Rattle.finished_rules.specs.ReachesInTables.{row_at}
use Rattle.walking.specs.Listed.{Among}

-- the field at the place p is a meta-field: its name is one of 4 to 6
pub record Meta (d : StoredDocument) (p : ℕ) : Type 0 where
  pub low : 4 ≤ (row_at d p).selection.name
  pub high : (row_at d p).selection.name ≤ 6

-- the definition is a query, and the fields at the places are meta-fields
pub record Introspection (d : StoredDocument) (s : StoredDefinition) (places : List ℕ) : Type 0 where
  pub query : s.row.operation_type ≡ 0
  pub fields : (p : ℕ) → Among p places → Meta d p

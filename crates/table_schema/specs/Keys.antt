-- The keys by which rows are found: a type by its name, a field by its owner and its name.
use Rattle.std.specs.Prelude.{ℕ}
use Rattle.ordered_index.specs.declared.keys.TypeField.{TypeField}
use Rattle.table_schema.specs.declared.rows.TypeRow.{TypeRow}
use Rattle.table_schema.specs.declared.rows.FieldRow.{FieldRow}
use Rattle.table_schema.specs.declared.rows.FieldEntry.{FieldEntry}

abbrev pub type_key : TypeRow → ℕ
type_key row = row.name

-- the key of the field `name` of the type `owner`
abbrev pub field_key : ℕ → ℕ → TypeField
field_key owner name = record { owner = owner; field = name }

abbrev pub row_key : FieldRow → TypeField
row_key row = field_key row.owner row.name

abbrev pub entry_key : FieldEntry → TypeField
entry_key entry = entry.key

-- The fields as a table schema keeps them, each definition beside its key.
use Rattle.std.specs.Prelude.{◌≡◌, ℕ, ◌+◌, ◌<◌, true, cond, List, map, length, Some, None, Ok, Err, Option, Result, slice_index_or}
use Rattle.std.specs.List.{enumerate_from}
use Rattle.ordered_index.specs.Keys.{same_field}
use Rattle.schema.specs.declared.answers.FieldDefinition.{FieldDefinition}
use Rattle.schema.specs.declared.answers.FieldLookupError.{FieldLookupError}
use Rattle.schema.specs.declared.answers.FieldLookupError.TheVariants.{NoSuchType, NoSuchField}
use Rattle.schema.specs.Meta.{defined}
use Rattle.table_schema.specs.declared.rows.TypeRow.{TypeRow}
use Rattle.table_schema.specs.declared.rows.FieldRow.{FieldRow}
use Rattle.table_schema.specs.declared.rows.FieldEntry.{FieldEntry}
use Rattle.table_schema.specs.Keys.{field_key, row_key, entry_key}
use Rattle.table_schema.specs.Found.{first_with}
use Rattle.table_schema.specs.Meaning.{known_type}

abbrev pub no_entry : FieldEntry
no_entry = record { key = field_key 0 0; definition = defined 0 0 }

-- the field of the entry that was found
abbrev pub entry_told : Option FieldEntry → Result FieldDefinition FieldLookupError
entry_told None = Err NoSuchField
entry_told (Some entry) = Ok entry.definition

-- a field of a known type is found where an entry has its key
abbrev pub kept_field : List TypeRow → List FieldEntry → ℕ → ℕ → Result FieldDefinition FieldLookupError
kept_field types entries t f = cond (known_type types t) (entry_told (first_with entry_key same_field (field_key t f) entries)) (Err NoSuchType)

-- the entry of a row whose definition place is this
abbrev pub entry_of : ℕ → FieldRow → FieldEntry
entry_of place row = record { key = row_key row; definition = defined place row.inner }

-- the entries of rows, the first of which stands at place i
abbrev pub entries_from : ℕ → List FieldRow → List FieldEntry
entries_from i rows = map (λ numbered. entry_of (numbered.0 + 1) numbered.1) (enumerate_from i rows)

-- the owner of each field is one of the types
abbrev pub OwnersKnown : List TypeRow → List FieldEntry → Type 0
OwnersKnown types entries = (i : ℕ) → i < length entries → known_type types (slice_index_or entries i no_entry).key.owner ≡ true

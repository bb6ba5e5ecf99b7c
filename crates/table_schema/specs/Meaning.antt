-- What rows of types and fields mean as a schema: which types are known, of which kind, with which fields.
use Rattle.std.specs.Prelude.{ℕ, ◌+◌, Bool, cond, ◌&&◌, List, is_some, Some, None, Ok, Err, Option, Result, ◌==◌, slice_index_or}
use Rattle.std.specs.List.{position_from}
use Rattle.schema.specs.declared.answers.OperationType.{OperationType}
use Rattle.schema.specs.declared.answers.OperationType.TheVariants.{Query, Mutation, Subscription}
use Rattle.schema.specs.declared.answers.TypeKind.{TypeKind}
use Rattle.schema.specs.declared.answers.FieldDefinition.{FieldDefinition}
use Rattle.schema.specs.declared.answers.FieldLookupError.{FieldLookupError}
use Rattle.schema.specs.declared.answers.FieldLookupError.TheVariants.{NoSuchType, NoSuchField}
use Rattle.schema.specs.Names.{name_or_none}
use Rattle.schema.specs.Numbers.{kind_of_number}
use Rattle.schema.specs.Meaning.{Meaning}
use Rattle.schema.specs.Meta.{defined}
use Rattle.table_schema.specs.declared.rows.TypeRow.{TypeRow}
use Rattle.table_schema.specs.declared.rows.FieldRow.{FieldRow}
use Rattle.table_schema.specs.declared.rows.RootTypes.{RootTypes}

abbrev pub no_type : TypeRow
no_type = record { name = 0; kind = 0 }

abbrev pub no_field : FieldRow
no_field = record { owner = 0; name = 0; inner = 0 }

-- whether the row is that of the type t
abbrev pub named : ℕ → TypeRow → Bool
named t row = row.name == t

-- whether the row is that of the field f of the type t
abbrev pub owns : ℕ → ℕ → FieldRow → Bool
owns t f row = row.owner == t && row.name == f

-- a type is known where a row has its name
abbrev pub known_type : List TypeRow → ℕ → Bool
known_type types t = is_some (position_from (named t) 0 types)

-- the kind that the row at a place tells
abbrev pub kind_there : List TypeRow → Option ℕ → Option TypeKind
kind_there types None = None
kind_there types (Some i) = kind_of_number (slice_index_or types i no_type).kind

-- its kind is the one that its row tells
abbrev pub kind_of : List TypeRow → ℕ → Option TypeKind
kind_of types t = kind_there types (position_from (named t) 0 types)

-- the field of the row at a place: the definition place is the row's place plus 1
abbrev pub field_there : List FieldRow → Option ℕ → Result FieldDefinition FieldLookupError
field_there fields None = Err NoSuchField
field_there fields (Some i) = Ok (defined (i + 1) (slice_index_or fields i no_field).inner)

-- a field of a known type is found where a row has its owner and its name
abbrev pub field_of : List TypeRow → List FieldRow → ℕ → ℕ → Result FieldDefinition FieldLookupError
field_of types fields t f = cond (known_type types t) (field_there fields (position_from (owns t f) 0 fields)) (Err NoSuchType)

-- the root types, 0 for none
abbrev pub root_of : RootTypes → OperationType → Option ℕ
root_of roots Query = name_or_none roots.query
root_of roots Mutation = name_or_none roots.mutation
root_of roots Subscription = name_or_none roots.subscription

-- what the rows mean as a schema
abbrev pub rows_meaning : List TypeRow → List FieldRow → RootTypes → Meaning
rows_meaning types fields roots = record {
  root = root_of roots;
  known = known_type types;
  sort = kind_of types;
  field = field_of types fields;
}

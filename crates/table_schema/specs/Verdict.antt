-- Which rows are no schema: each row's own fault, and the first of all.
use Rattle.std.specs.Prelude.{ℕ, Bool, true, false, cond, ◌&&◌, ◌||◌, List, length, take, is_some, Some, None, Option, ◌==◌, nat_lt, slice_get}
use Rattle.std.specs.Option.{option_and_then}
use Rattle.std.specs.List.{list_all, position_from}
use Rattle.refusal.specs.Firsts.{first_fault, or_else}
use Rattle.schema.specs.declared.answers.TypeKind.{TypeKind}
use Rattle.schema.specs.declared.answers.TypeKind.TheVariants.{Scalar, Object, Interface, Union, Enum, InputObject}
use Rattle.schema.specs.Numbers.{kind_of_number}
use Rattle.table_schema.specs.declared.rows.TypeRow.{TypeRow}
use Rattle.table_schema.specs.declared.rows.FieldRow.{FieldRow}
use Rattle.table_schema.specs.declared.fault.RowFault.{RowFault}
use Rattle.table_schema.specs.declared.fault.RowFault.TheVariants.{NameMissing, KindUnknown, Repeated, OwnerUnfit}
use Rattle.table_schema.specs.declared.fault.SchemaFault.{SchemaFault}
use Rattle.table_schema.specs.declared.fault.SchemaFault.TheVariants.{OverLimit, SlotsUnfit, InTypes, InFields}
use Rattle.table_schema.specs.Meaning.{owns, known_type, kind_of}

-- a schema holds 1,024 types and 4,096 fields
abbrev pub over_limit : List TypeRow → List FieldRow → Bool
over_limit types fields = nat_lt 1024 (length types) || nat_lt 4096 (length fields)

-- what is wrong with a type that comes after others: its name is 0, its kind is not 1 to 6, it came before
abbrev pub type_fault : List TypeRow → TypeRow → Option RowFault
type_fault before row =
    cond (row.name == 0) (Some NameMissing)
    (cond (is_some (kind_of_number row.kind))
    (cond (known_type before row.name) (Some Repeated) None)
    (Some KindUnknown))

-- only objects and interfaces own fields
abbrev pub owns_fields : Option TypeKind → Bool
owns_fields None = false
owns_fields (Some Scalar) = false
owns_fields (Some Object) = true
owns_fields (Some Interface) = true
owns_fields (Some Union) = false
owns_fields (Some Enum) = false
owns_fields (Some InputObject) = false

-- what is wrong with a field that comes after others: one of its names is 0, it came before, its owner owns no fields
abbrev pub field_fault : List TypeRow → List FieldRow → FieldRow → Option RowFault
field_fault types before row =
    cond (row.owner == 0 || (row.name == 0 || row.inner == 0)) (Some NameMissing)
    (cond (is_some (position_from (owns row.owner row.name) 0 before)) (Some Repeated)
    (cond (owns_fields (kind_of types row.owner)) None (Some OwnerUnfit)))

-- the fault of the row at place i of a table, as it stands after the rows before it
abbrev pub fault_at : {R : Type 0} → (List R → R → Option RowFault) → List R → ℕ → Option RowFault
fault_at fault rows i = option_and_then (fault (take i rows)) (slice_get rows i)

abbrev pub types_fault : List TypeRow → Option SchemaFault
types_fault types = first_fault InTypes (fault_at type_fault types) 0 (length types)

abbrev pub fields_fault : List TypeRow → List FieldRow → Option SchemaFault
fields_fault types fields = first_fault InFields (fault_at (field_fault types) fields) 0 (length fields)

-- types in order, then fields in order
abbrev pub rows_fault : List TypeRow → List FieldRow → Option SchemaFault
rows_fault types fields = or_else (types_fault types) (fields_fault types fields)

-- whether slots are an empty index of this size
abbrev pub zeros : List ℕ → Bool
zeros slots = list_all (λ s. s == 0) slots

abbrev pub empty_index : ℕ → List ℕ → Bool
empty_index size slots = length slots == size && zeros slots

-- what is wrong with the slots that are lent: they are no empty indexes of 2,048 and of 8,192 slots
abbrev pub slots_fault : List ℕ → List ℕ → Option SchemaFault
slots_fault type-slots field-slots = cond (empty_index 2048 type-slots && empty_index 8192 field-slots) None (Some SlotsUnfit)

-- the verdict on rows that are to be indexed in these slots: sizes first, then the rows, then the slots
abbrev pub index_fault : List TypeRow → List FieldRow → List ℕ → List ℕ → Option SchemaFault
index_fault types fields type-slots field-slots =
    cond (over_limit types fields) (Some OverLimit)
    (or_else (rows_fault types fields) (slots_fault type-slots field-slots))

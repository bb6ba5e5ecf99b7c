-- What a table schema answers, and what is made of rows.
use Rattle.std.specs.Prelude.{◌≡◌, false, cond, List, Some, None, Ok, Err, vec_items, Option, Result}
use Rattle.schema.specs.Meaning.{Meaning}
use Rattle.table_schema.specs.declared.rows.TypeRow.{TypeRow}
use Rattle.table_schema.specs.declared.rows.FieldRow.{FieldRow}
use Rattle.table_schema.specs.declared.rows.RootTypes.{RootTypes}
use Rattle.table_schema.specs.declared.fault.SchemaFault.{SchemaFault}
use Rattle.table_schema.specs.declared.fault.SchemaFault.TheVariants.{OverLimit}
use Rattle.table_schema.specs.declared.fault.MakeFault.{MakeFault}
use Rattle.table_schema.specs.declared.fault.MakeFault.TheVariants.{Rows, NoMemory}
use Rattle.table_schema.specs.declared.table.TableSchema.{TableSchema}
use Rattle.table_schema.specs.Meaning.{known_type, kind_of, root_of, rows_meaning}
use Rattle.table_schema.specs.Kept.{kept_field}
use Rattle.table_schema.specs.Verdict.{over_limit, rows_fault}

-- the meaning of its own rows, each field with the definition that is kept beside its key
abbrev pub table_meaning : TableSchema → Meaning
table_meaning s = record {
  root = root_of s.roots;
  known = known_type (vec_items s.types.entries);
  sort = kind_of (vec_items s.types.entries);
  field = kept_field (vec_items s.types.entries) (vec_items s.fields.entries);
}

-- the first fault of rows that are to be made a schema: sizes first
abbrev pub schema_fault : List TypeRow → List FieldRow → Option SchemaFault
schema_fault types fields = cond (over_limit types fields) (Some OverLimit) (rows_fault types fields)

-- a schema that means what the rows mean, exactly where they have no fault; else the first fault; want of memory can
-- only come where the sizes are right
abbrev pub Makes : List TypeRow → List FieldRow → RootTypes → Result TableSchema MakeFault → Type 0
Makes types fields roots (Ok s) = (schema_fault types fields ≡ None) × (table_meaning s ≡ rows_meaning types fields roots)
Makes types fields roots (Err (Rows fault)) = schema_fault types fields ≡ Some fault
Makes types fields roots (Err NoMemory) = over_limit types fields ≡ false

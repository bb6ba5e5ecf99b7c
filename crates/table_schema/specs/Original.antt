-- The schema of the original library: the meta layer over the table.
use Rattle.std.specs.Prelude.{◌≡◌, false, List, Some, None, Ok, Err, Result}
use Rattle.schema.specs.declared.meta.MetaLayer.{MetaLayer}
use Rattle.schema.specs.Meaning.{Meaning}
use Rattle.schema.specs.Meta.{with_meta}
use Rattle.table_schema.specs.declared.rows.TypeRow.{TypeRow}
use Rattle.table_schema.specs.declared.rows.FieldRow.{FieldRow}
use Rattle.table_schema.specs.declared.rows.RootTypes.{RootTypes}
use Rattle.table_schema.specs.declared.fault.MakeFault.{MakeFault}
use Rattle.table_schema.specs.declared.fault.MakeFault.TheVariants.{Rows, NoMemory}
use Rattle.table_schema.specs.declared.table.TableSchema.{TableSchema}
use Rattle.table_schema.specs.Meaning.{rows_meaning}
use Rattle.table_schema.specs.Verdict.{over_limit}
use Rattle.table_schema.specs.Table.{table_meaning, schema_fault}

-- what the original answers: as the rows mean, but for a field, `Schema::type_field`, one that the rows have, else a
-- meta-field
abbrev pub original_meaning : List TypeRow → List FieldRow → RootTypes → Meaning
original_meaning types fields roots = with_meta (rows_meaning types fields roots)

-- what the layer over a table answers
abbrev pub layer_meaning : MetaLayer TableSchema → Meaning
layer_meaning layer = with_meta (table_meaning layer.lower)

-- a layer that answers as the original does, exactly where the rows have no fault; else as in making the table
abbrev pub MakesLayer : List TypeRow → List FieldRow → RootTypes → Result (MetaLayer TableSchema) MakeFault → Type 0
MakesLayer types fields roots (Ok layer) = (schema_fault types fields ≡ None) × (layer_meaning layer ≡ original_meaning types fields roots)
MakesLayer types fields roots (Err (Rows fault)) = schema_fault types fields ≡ Some fault
MakesLayer types fields roots (Err NoMemory) = over_limit types fields ≡ false

-- The refusal for each fault: its reason, its layer and its row.
use Rattle.refusal.specs.declared.Layer.TheVariants.{Schema}
use Rattle.refusal.specs.declared.Reason.{Reason}
use Rattle.refusal.specs.declared.Reason.TheVariants as reason
use Rattle.refusal.specs.declared.Refusal.{Refusal}
use Rattle.refusal.specs.Layers.{refused}
use Rattle.table_schema.specs.declared.fault.RowFault.{RowFault}
use Rattle.table_schema.specs.declared.fault.RowFault.TheVariants.{NameMissing, KindUnknown, Repeated, OwnerUnfit}
use Rattle.table_schema.specs.declared.fault.SchemaFault.{SchemaFault}
use Rattle.table_schema.specs.declared.fault.SchemaFault.TheVariants.{OverLimit, SlotsUnfit, InTypes, InFields}
use Rattle.table_schema.specs.declared.fault.MakeFault.{MakeFault}
use Rattle.table_schema.specs.declared.fault.MakeFault.TheVariants.{Rows, NoMemory}

-- The reason that is what is wrong with a row.
abbrev pub row_reason : RowFault → Reason
row_reason NameMissing = reason.NameMissing
row_reason KindUnknown = reason.KindUnknown
row_reason Repeated = reason.Repeated
row_reason OwnerUnfit = reason.OwnerUnfit

-- Why rows are refused: all of them are faults of the schema's layer.
abbrev pub schema_refusal : SchemaFault → Refusal
schema_refusal OverLimit = refused reason.SchemaOverLimit Schema 0
schema_refusal SlotsUnfit = refused reason.IndexUnfit Schema 0
schema_refusal (InTypes fault row) = refused (row_reason fault) Schema row
schema_refusal (InFields fault row) = refused (row_reason fault) Schema row

-- Why no schema was made: want of memory has a reason of its own.
abbrev pub make_refusal : MakeFault → Refusal
make_refusal (Rows fault) = schema_refusal fault
make_refusal NoMemory = refused reason.NoMemory Schema 0

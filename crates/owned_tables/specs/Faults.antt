-- The refusal for each fault: want of memory, of the layer that the tables are for.
use Rattle.refusal.specs.declared.Layer.{Layer}
use Rattle.refusal.specs.declared.Layer.TheVariants as layer
use Rattle.refusal.specs.declared.Reason.TheVariants as reason
use Rattle.refusal.specs.declared.Refusal.{Refusal}
use Rattle.refusal.specs.Layers.{refused}
use Rattle.owned_tables.specs.declared.fault.OwnedTablesFault.{OwnedTablesFault}
use Rattle.owned_tables.specs.declared.fault.OwnedTablesFault.TheVariants as owned
use Rattle.owned_tables.specs.declared.fault.WalkTablesFault.{WalkTablesFault}
use Rattle.owned_tables.specs.declared.fault.WalkTablesFault.TheVariants as walk

-- there was no memory, and no row is at fault
abbrev pub none_left : Layer → Refusal
none_left at = refused reason.NoMemory at 0

abbrev pub tables_refusal : OwnedTablesFault → Refusal
tables_refusal (owned.NoMemory e) = none_left layer.Builder

abbrev pub walk_refusal : WalkTablesFault → Refusal
walk_refusal (walk.NoMemory e) = none_left layer.FinishedDocument

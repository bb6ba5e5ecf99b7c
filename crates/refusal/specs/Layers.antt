-- The numbers of the layers and of the reasons, and a refusal from its three parts.
use Rattle.std.specs.Prelude.{ℕ}
use Rattle.refusal.specs.declared.Layer.{Layer}
use Rattle.refusal.specs.declared.Layer.TheVariants.{Schema, DocumentTables, Builder, FinishedDocument}
use Rattle.refusal.specs.declared.Reason.{Reason}
use Rattle.refusal.specs.declared.Reason.TheVariants as reason
use Rattle.refusal.specs.declared.Refusal.{Refusal}

-- The number of a layer.
abbrev pub layer_number : Layer → ℕ
layer_number Schema = 1
layer_number DocumentTables = 2
layer_number Builder = 3
layer_number FinishedDocument = 4

-- The number of a reason.
abbrev pub reason_number : Reason → ℕ
reason_number reason.SchemaOverLimit = 1
reason_number reason.TooManyDefinitions = 2
reason_number reason.TooManyRows = 3
reason_number reason.TableTooShort = 4
reason_number reason.NameMissing = 5
reason_number reason.KindUnknown = 6
reason_number reason.Repeated = 7
reason_number reason.OwnerUnfit = 8
reason_number reason.StoredBroken = 9
reason_number reason.Broken = 10
reason_number reason.TooDeep = 11
reason_number reason.NoRoom = 12
reason_number reason.WalkTooShort = 13
reason_number reason.NoOperation = 14
reason_number reason.IndexUnfit = 15
reason_number reason.NoMemory = 26

-- The refusal for this reason, of this layer, at this row.
abbrev pub refused : Reason → Layer → ℕ → Refusal
refused reason layer row = record { reason = reason; layer = layer; row = row }

-- The faults of calls on finished documents as refusals.
use Rattle.std.specs.Prelude.{ℕ}
use Rattle.refusal.specs.declared.Layer.TheVariants as layer
use Rattle.refusal.specs.declared.Reason.{Reason}
use Rattle.refusal.specs.declared.Reason.TheVariants as reason
use Rattle.refusal.specs.declared.Refusal.{Refusal}
use Rattle.refusal.specs.Layers.{refused}
use Rattle.stored_tables.specs.Verdict.{row_number}
use Rattle.executable.specs.declared.fault.ExecutableFault.{ExecutableFault}
use Rattle.executable.specs.declared.fault.ExecutableFault.TheVariants.{TableTooShort, WalkTooShort, Stored, IndexUnfit, NoOperation}

-- a refusal of the layer of finished documents
abbrev pub topmost : Reason → ℕ → Refusal
topmost why row = refused why layer.FinishedDocument row

abbrev pub executable_refusal : ExecutableFault → Refusal
executable_refusal TableTooShort = topmost reason.TableTooShort 0
executable_refusal WalkTooShort = topmost reason.WalkTooShort 0
executable_refusal (Stored fault) = topmost reason.StoredBroken (row_number fault)
executable_refusal IndexUnfit = topmost reason.IndexUnfit 0
executable_refusal NoOperation = topmost reason.NoOperation 0

-- The faults of the builder as refusals: what is wrong with a handed document is a refusal of the document tables.
use Rattle.refusal.specs.declared.Layer.TheVariants.{Builder}
use Rattle.refusal.specs.declared.Reason.TheVariants as reason
use Rattle.refusal.specs.declared.Refusal.{Refusal}
use Rattle.refusal.specs.Layers.{refused}
use Rattle.document.specs.Verdict.{document_refusal}
use Rattle.stored_tables.specs.Verdict.{row_number}
use Rattle.builder.specs.declared.fault.BuilderFault.{BuilderFault}
use Rattle.builder.specs.declared.fault.BuilderFault.TheVariants.{Document, TableTooShort, Stored, IndexUnfit, NoRoom}

abbrev pub builder_refusal : BuilderFault → Refusal
builder_refusal (Document fault) = document_refusal fault
builder_refusal TableTooShort = refused reason.TableTooShort Builder 0
builder_refusal (Stored fault) = refused reason.StoredBroken Builder (row_number fault)
builder_refusal IndexUnfit = refused reason.IndexUnfit Builder 0
builder_refusal NoRoom = refused reason.NoRoom Builder 0

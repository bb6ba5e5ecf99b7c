-- The faults of scripts as refusals: each is that of the builder, or of the finished document, whole.
use Rattle.refusal.specs.declared.Refusal.{Refusal}
use Rattle.builder.specs.Refusals.{builder_refusal}
use Rattle.executable.specs.Refusals.{executable_refusal}
use Rattle.scripts.specs.declared.script.ScriptFault.{ScriptFault}
use Rattle.scripts.specs.declared.script.ScriptFault.TheVariants.{NoBuilder, Finished}

abbrev pub refusal_of : ScriptFault → Refusal
refusal_of (NoBuilder f) = builder_refusal f
refusal_of (Finished f) = executable_refusal f

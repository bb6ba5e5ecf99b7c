-- The errors in the table are those of the accepted definitions.
use Rattle.std.proofs.Common.{◌∙◌}
use Rattle.builder.proofs.Readings.{reads}
use Rattle.builder.proofs.builder.ExecutableDocumentBuilder.errors.Goals as goal

pub returns-clause-listed : goal.returns-clause-listed
returns-clause-listed g c m calls w = c.in_use.ensures ∙ (reads g.S.Schema.meaning m calls c.args.self.now c.args.tables.now w).errors

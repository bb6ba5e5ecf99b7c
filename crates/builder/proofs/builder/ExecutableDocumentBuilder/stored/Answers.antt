-- What is stored is what is kept.
use Rattle.std.proofs.Common.{◌∙◌}
use Rattle.builder.proofs.Readings.{reads}
use Rattle.builder.proofs.Standing.{one_range}
use Rattle.builder.proofs.builder.ExecutableDocumentBuilder.stored.Goals as goal

pub returns-clause-kept : goal.returns-clause-kept
returns-clause-kept g c m calls w =
    let r = reads g.S.Schema.meaning m calls c.args.self.now c.args.tables.now w in
    let s = c.stored.ensures in
    record {
      anonymous = s.anonymous ∙ r.anonymous;
      operations = s.operations ∙ r.operations;
      fragments = s.fragments ∙ r.fragments;
      rows = s.rows ∙ r.rows;
      ranges = rw (s.anonymous, s.operations, s.fragments, s.rows) (one_range g.S.Schema.meaning m calls c.args.self.now c.args.tables.now w);
    }

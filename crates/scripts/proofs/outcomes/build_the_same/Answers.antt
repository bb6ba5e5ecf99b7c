-- Both builders came out of the calls of their scripts, and so did the documents that are compared.
use Rattle.schema.specs.Meaning.{Meaning}
use Rattle.scripts.proofs.outcomes.build_the_same.Goals as goal

pub returns-clause-told : goal.returns-clause-told
returns-clause-told g c =
    let m : Meaning = g.S.Schema.meaning c.args.schema.now in
    let one = c.in_ok-run.ensures.runs in
    let two = c.in_ok-run-2.ensures.runs in
    record {
      one = (_, one.0);
      two = (_, two.0);
      decides = c.in_ok-compare.ensures.kept m _ _ (c.build-one.ensures.calls m _ _ one.1) (c.build-other.ensures.calls m _ _ two.1);
    }

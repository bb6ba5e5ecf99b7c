-- A list that is lent is long enough for all places.
use Rattle.std.proofs.Common.{length}
use Rattle.std.proofs.lemmas.Result.{MatchResult-weaker}
use Rattle.walking.proofs.Whole.{in_whole}
use Rattle.walking.proofs.fields.all_fields.Goals as goal

pub returns-in-Some-clause-answer : goal.returns-in-Some-clause-answer
returns-in-Some-clause-answer c =
    rw c.in-Some.is
    (MatchResult-weaker c.walk_fields.result c.walk_fields.ensures.answer
    (λ n of. in_whole c.args.document.now c.args.operation (length c.args.stack.now) (length c.args.marks.now) c.in-Some.list.now c.walk_fields.new.list n of) (λ f refused. refused))

pub returns-in-Some-clause-refused : goal.returns-in-Some-clause-refused
returns-in-Some-clause-refused c = rw c.in-Some.is c.walk_fields.ensures.refused

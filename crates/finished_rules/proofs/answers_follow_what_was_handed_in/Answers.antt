-- Where the members that were handed in agree, so do those that the schema answered.
use Rattle.finished_rules.proofs.Answered.{rows_follow, answers_follow}
use Rattle.finished_rules.proofs.answers_follow_what_was_handed_in.Goals as goal

pub returns : goal.returns
returns c = (rows_follow, answers_follow)

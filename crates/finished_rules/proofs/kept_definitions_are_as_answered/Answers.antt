-- Kept rows and definitions are as the schema answers.
use Rattle.finished_rules.proofs.Answered.{build_answered, kept_is_answered}
use Rattle.finished_rules.proofs.kept_definitions_are_as_answered.Goals as goal

pub returns : goal.returns
returns c = (build_answered, kept_is_answered)

-- A stored definition reaches what the kept one reaches.
use Rattle.finished_rules.proofs.Reached.{tables_reach}
use Rattle.finished_rules.proofs.tables_reach_what_is_kept.Goals as goal

pub returns : goal.returns
returns c = tables_reach

-- One call more adds its definitions behind the others.
use Rattle.building_rules.proofs.Histories.{histories_grow}
use Rattle.building_rules.proofs.histories_grow.Goals as goal

pub returns : goal.returns
returns c = histories_grow

-- Later definitions go on where earlier ones left off.
use Rattle.building_rules.proofs.GoesOn.{runs_go_on}
use Rattle.building_rules.proofs.later_definitions_go_on.Goals as goal

pub returns : goal.returns
returns c = runs_go_on

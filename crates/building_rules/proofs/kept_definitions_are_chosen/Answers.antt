-- What is kept are the chosen definitions, and no others are chosen.
use Rattle.building_rules.proofs.Chosen.{kept_are_chosen}
use Rattle.building_rules.proofs.kept_definitions_are_chosen.Goals as goal

pub returns : goal.returns
returns c = kept_are_chosen

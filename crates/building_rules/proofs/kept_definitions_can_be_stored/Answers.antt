-- What is kept can stand in tables.
use Rattle.building_rules.proofs.Storable.{kept_is_storable}
use Rattle.building_rules.proofs.kept_definitions_can_be_stored.Goals as goal

pub returns : goal.returns
returns c = kept_is_storable

-- What is kept stands in the order in which it was handed in.
use Rattle.building_rules.proofs.Keeping.{kept_in_order}
use Rattle.building_rules.proofs.selections_keep_their_order.Goals as goal

pub returns : goal.returns
returns c = kept_in_order

-- A schema that answers with an unknown type misses an error, and some documents are valid.
use Rattle.building_rules.proofs.Dangling.{closed_is_needed, some_are_valid}
use Rattle.building_rules.proofs.knowing_the_types_is_needed.Goals as goal

pub returns : goal.returns
returns c = (closed_is_needed, some_are_valid)

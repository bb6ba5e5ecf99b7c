-- Each query comes to what its table says.
use Rattle.queries.proofs.Computed.{all_stand}
use Rattle.queries.proofs.the_queries_stand.Goals as goal

pub returns : goal.returns
returns c = all_stand

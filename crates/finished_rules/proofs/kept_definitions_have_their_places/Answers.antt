-- What is kept has its places in the tables.
use Rattle.finished_rules.proofs.Entries.{table_places}
use Rattle.finished_rules.proofs.kept_definitions_have_their_places.Goals as goal

pub returns : goal.returns
returns c = table_places

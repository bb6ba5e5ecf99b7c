-- What is read back from the tables is what is kept.
use Rattle.finished_rules.proofs.Tables.{tables_read_back}
use Rattle.finished_rules.proofs.tables_are_read_back.Goals as goal

pub returns : goal.returns
returns c = tables_read_back

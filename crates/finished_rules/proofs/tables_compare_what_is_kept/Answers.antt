-- Tables are the same exactly when what is kept is.
use Rattle.finished_rules.proofs.Compared.{tables_compare}
use Rattle.finished_rules.proofs.tables_compare_what_is_kept.Goals as goal

pub returns : goal.returns
returns c = tables_compare

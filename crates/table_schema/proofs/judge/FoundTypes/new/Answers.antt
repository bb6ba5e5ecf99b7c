-- Slots that are sound find each type.
use Rattle.ordered_index.specs.Keys.{same_name, name_hash}
use Rattle.ordered_index.specs.Laws.{name_lawful}
use Rattle.table_schema.specs.Keys.{type_key}
use Rattle.table_schema.proofs.Founds.{finds_all}
use Rattle.table_schema.proofs.judge.FoundTypes.new.Goals as goal

pub invariant_of-result : goal.invariant_of-result
invariant_of-result c = record {
  found = λ slots given. finds_all type_key same_name name_hash name_lawful c.args.rows.now slots.now (c.requires slots given);
}

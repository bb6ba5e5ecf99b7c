-- A sound index finds each key.
use Rattle.table_schema.proofs.Founds.{finds_all}
use Rattle.table_schema.proofs.indexed.IndexedTable.new.Goals as goal

pub invariant_of-result : goal.invariant_of-result
invariant_of-result g c = record {
  found = finds_all g.E.Entry.keyed g.E.Of.PartialEq.eq g.E.Of.Key.digest g.met.E.Of.Key.lawful c.args.entries.items c.args.slots.items c.requires;
}

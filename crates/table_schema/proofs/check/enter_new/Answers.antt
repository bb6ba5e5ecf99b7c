-- A key that is there already is a repeated one.
use Rattle.std.proofs.Common.{is_some, Some, None, ap}
use Rattle.ordered_index.proofs.Firsts.{located_place}
use Rattle.table_schema.proofs.check.enter_new.Goals as goal

pub returns-in-Added-clause-came : goal.returns-in-Added-clause-came
returns-in-Added-clause-came g c =
    ap is_some (located_place g.E.Entry.keyed g.E.Of.PartialEq.eq c.args.before.now c.args.key.now None (c.in-Added.ensures.located c.requires.sound))

pub returns-in-Present-clause-came : goal.returns-in-Present-clause-came
returns-in-Present-clause-came g c =
    ap is_some (located_place g.E.Entry.keyed g.E.Of.PartialEq.eq c.args.before.now c.args.key.now (Some c.in-Present.field-0) (c.in-Present.ensures.located c.requires.sound))

-- With the new entry at its place the index is sound again.
use Rattle.ordered_index.proofs.Enters.{inserting}
use Rattle.ordered_index.proofs.index.insert.Goals as goal

pub returns-in-Added-clause-sound : goal.returns-in-Added-clause-sound
returns-in-Added-clause-sound g c sound =
    let told = c.in-Added.ensures in
    inserting g.E.Entry.keyed g.E.Of.PartialEq.eq g.E.Of.Key.digest c.args.entries.now c.args.count c.key-key.result c.args.entry c.key-key.ensures c.if-count-entries.false
    _ _ c.in-Added.n told.answer c.enter-entered.new.slots (told.sound sound)

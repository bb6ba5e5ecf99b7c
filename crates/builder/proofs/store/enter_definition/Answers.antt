-- The name is not taken and there is room, so it is added.
use Rattle.builder.specs.Holding.{table}
use Rattle.builder.proofs.Entries.{added}
use Rattle.builder.proofs.store.enter_definition.Goals as goal

pub returns-in_default : goal.returns-in_default
returns-in_default c =
    let e = c.insert.ensures in
    let is = added (table c.args.entries.now c.args.slots.now c.args.count) c.args.definition.row.name c.requires.fits c.requires.room c.requires.free _ c.insert.result e.answer (e.located c.requires.sound) (e.full c.requires.sound) in
    absurd (c.in_default.not-Added c.args.count is)

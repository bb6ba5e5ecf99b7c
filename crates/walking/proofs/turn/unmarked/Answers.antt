-- The fragment that is found is the only one of its name.
use Rattle.walking.proofs.Found.{one_found, none_found, marked_found}
use Rattle.walking.proofs.turn.unmarked.Goals as goal

pub returns-in_err-place : goal.returns-in_err-place
returns-in_err-place c = rw c.from_residual.ensures (none_found c.args.document.now.stored c.args.marks.now c.args.name (c.in_err-place.ensures.located c.requires.sound))

pub returns-then-marks-place-ne0 : goal.returns-then-marks-place-ne0
returns-then-marks-place-ne0 c =
    marked_found c.args.document.now.stored c.args.marks.now c.args.name c.in_ok-place.place c.if-marks-place-ne0.true (c.in_ok-place.ensures.located c.requires.sound)

pub returns : goal.returns
returns c =
    let at = one_found c.args.document.now.stored c.args.name c.in_ok-place.place (c.in_ok-place.ensures.located c.requires.sound) in
    (at.0, at.1, c.if-marks-place-ne0.false)

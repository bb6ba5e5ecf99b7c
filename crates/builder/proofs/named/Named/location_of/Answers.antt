-- The index is sound, so it tells the one place of the name.
use Rattle.std.proofs.Common.{◌∙◌}
use Rattle.builder.proofs.Taken.{found_all, missing_all}
use Rattle.builder.proofs.named.Named.location_of.Goals as goal

pub returns-in_err-place : goal.returns-in_err-place
returns-in_err-place c =
    c.from_residual.ensures ∙ missing_all c.args.self.now.definitions.now c.args.self.now.slots.now c.args.name c.find.result c.find.ensures.located c.args.self.now.sound c.in_err-place.was

pub returns : goal.returns
returns c = found_all c.args.self.now.definitions.now c.args.self.now.slots.now c.args.name c.find.result c.find.ensures.located c.args.self.now.sound c.in_ok-place.place c.in_ok-place.was

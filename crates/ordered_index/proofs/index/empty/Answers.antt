-- Empty slots are a sound index of no key.
use Rattle.std.proofs.Common.{◌≡◌, ℕ, [], List, length, replicate, sym, subst}
use Rattle.ordered_index.specs.Sound.{Sound}
use Rattle.ordered_index.proofs.Rounds.{sound_none}
use Rattle.ordered_index.proofs.index.empty.Goals as goal

pub returns-clause-sound : goal.returns-clause-sound
returns-clause-sound g c power =
    let size = length c.args.slots.now in
    let clear : c.fill.new.self ≡ replicate size 0 = c.fill.ensures.after (λ y is. is) in
    subst (λ (slots : List ℕ). Sound g.E.Of.PartialEq.eq g.E.Of.Key.digest [] slots) (sym clear) (sound_none g.E.Of.PartialEq.eq g.E.Of.Key.digest size power)

-- The first 512 slots are empty, which is a sound index of no name.
use Rattle.std.proofs.Common.{ℕ, [], ◌++◌, List, length, drop, replicate, sym, ap, ◌∙◌, subst}
use Rattle.std.proofs.lemmas.List.{take_at, length-take-le, length-replicate}
use Rattle.ordered_index.specs.Keys.{same_name, name_hash}
use Rattle.ordered_index.specs.Sound.{Sound}
use Rattle.builder.proofs.builder.empty_index.Goals as goal

pub returns-clause-emptied : goal.returns-clause-emptied
returns-clause-emptied c =
    ap (λ (l : List ℕ). l ++ drop 512 c.args.slots.now) (c.empty.ensures.clear ∙ ap (λ (n : ℕ). replicate n 0) (length-take-le 512 c.args.slots.now c.requires))

pub returns-clause-sound : goal.returns-clause-sound
returns-clause-sound c =
    let long = length-take-le 512 c.args.slots.now c.requires in
    let emptied = ap length c.empty.ensures.clear ∙ length-replicate _ 0 ∙ long in
    subst (Sound same_name name_hash []) (sym (take_at c.empty.new.slots (drop 512 c.args.slots.now) 512 emptied)) (c.empty.ensures.sound (9, long))

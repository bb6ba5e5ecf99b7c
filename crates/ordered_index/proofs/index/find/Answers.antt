-- Where the probe ends is the place of the key, or it has none.
use Rattle.std.proofs.Common.{map, Some, None, refl, ap, ⊎_elim}
use Rattle.ordered_index.specs.Probing.{found_at}
use Rattle.ordered_index.proofs.Enters.{finding}
use Rattle.ordered_index.proofs.index.find.Goals as goal

pub returns-in-Found : goal.returns-in-Found
returns-in-Found g c =
    let all = finding g.E.Of.PartialEq.eq g.E.Of.Key.digest g.met.E.Of.Key.lawful (map g.E.Entry.keyed c.args.entries.now) c.args.slots.now c.args.key.now
    _ (Some c.in-Found.n) c.in-Found.ensures refl in
    record { answer = all.0; located = all.1 }

pub returns-in-Vacant : goal.returns-in-Vacant
returns-in-Vacant g c =
    let all = finding g.E.Of.PartialEq.eq g.E.Of.Key.digest g.met.E.Of.Key.lawful (map g.E.Entry.keyed c.args.entries.now) c.args.slots.now c.args.key.now
    c.probe.result None c.probe.ensures (⊎_elim (λ vacant. ap found_at vacant.1) (λ round. ap found_at round) c.in-Vacant.is) in
    record { answer = all.0; located = all.1 }

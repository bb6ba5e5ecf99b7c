-- What is left to look at gives what all slots give.
use Rattle.std.proofs.Common.{◌≡◌, ◌-◌, ◌<◌, map, length}
use Rattle.ordered_index.specs.Probing.{probe, probe_for}
use Rattle.ordered_index.proofs.probe.probe.Given as goal

abbrev pub invariant-loop-step : goal.invariant-loop-step
invariant-loop-step g l =
    let keys = map g.E.Entry.keyed l.entries in
    (l.at < length l.slots)
    × (probe g.E.Of.PartialEq.eq keys l.slots l.key l.at (length l.slots - l.step)
    ≡ probe_for g.E.Of.PartialEq.eq g.E.Of.Key.digest keys l.slots l.key)

-- What the rounds that are left lead to, all of them lead to.
use Rattle.std.proofs.Common.{ℕ, ◌-◌}
use Rattle.timing.specs.Rounds.{After}
use Rattle.timing.proofs.go_round.Given as goal

abbrev pub invariant-loop-turn : goal.invariant-loop-turn
invariant-loop-turn g l =
    (last : ℕ) → After (goal.F-post g l.fn.round) (l.fn.count - l.turn) l.sum last → After (goal.F-post g l.fn.round) l.fn.count 0 last

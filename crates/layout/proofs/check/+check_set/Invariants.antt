-- The rows before were searched, on the level of the next row, and those beneath and to come grow fewer.
use Rattle.std.proofs.Common.{◌≡◌, ℕ, ◌-◌, ◌≤◌, map}
use Rattle.layout.specs.Places.{first_misfit}
use Rattle.layout.proofs.Windows.{Searched}
use Rattle.layout.proofs.check.+check_set.Given as goal

abbrev pub decreases-check_set : goal.decreases-check_set
decreases-check_set g l = l.end - l.start

-- the level of the next row begins at s
abbrev pub invariant-loop-i : goal.invariant-loop-i
invariant-loop-i g l =
    let views = map g.R.Row.seen l.rows in
    (s : ℕ) × (l.start ≤ s) × Searched views s l.end l.left l.i
    × (first_misfit views s l.end l.left ≡ first_misfit views l.start l.end l.room)

abbrev pub decreases-loop-i : goal.decreases-loop-i
decreases-loop-i g l = l.end - l.i

-- The set grows shorter, and its rest adds up with the sum.
use Rattle.std.proofs.Common.{◌≡◌, ◌+◌, ◌-◌, ◌≤◌}
use Rattle.layout.specs.Forest.{Forest, depth}
use Rattle.document.specs.Rows.{Selection}
use Rattle.document.specs.Sets.{Holds}
use Rattle.document.specs.Needs.{forest_keys}
use Rattle.document.proofs.handed.Document.+path_keys_in_set.Given as goal

abbrev pub decreases-path_keys_in_set : goal.decreases-path_keys_in_set
decreases-path_keys_in_set l = l.set.end - l.set.next

-- what is left adds up with what was counted
abbrev pub invariant-loop-step : goal.invariant-loop-step
invariant-loop-step l =
    (g : Forest Selection) × Holds l.self.rows.now l.rest g × (l.around + depth g ≤ 32)
    × ((f : Forest Selection) → Holds l.self.rows.now l.fn.set f → l.total + forest_keys l.around g ≡ forest_keys l.above f)
    × (l.rest.end ≤ l.fn.set.end) × (l.fn.set.next ≤ l.rest.next)

abbrev pub decreases-loop-step : goal.decreases-loop-step
decreases-loop-step l = l.rest.end - l.rest.next

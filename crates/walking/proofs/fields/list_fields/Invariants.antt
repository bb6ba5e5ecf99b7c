-- What is listed and counted are the places that the walk has come upon.
use Rattle.std.proofs.Common.{◌≡◌, ℕ, List, length}
use Rattle.walking.specs.declared.turn.Scope.TheVariants.{Deep}
use Rattle.walking.specs.Lent.{written_over}
use Rattle.walking.specs.Turning.{going, left}
use Rattle.walking.proofs.Under.{Under}
use Rattle.walking.proofs.fields.list_fields.Given as goal

abbrev pub invariant-loop-depth : goal.invariant-loop-depth
invariant-loop-depth l =
    (l.marks.0.ghost_name ≡ l.initial.marks.0.ghost_name) × (length l.marks.0.now ≡ length l.initial.marks.0.now)
    × (out : List ℕ) × Under l.document.stored Deep l.operation (going l.stack l.depth l.marks.0.now) out × (l.count ≡ length out) × (l.list ≡ written_over l.fn.list out)

abbrev pub decreases-loop-depth : goal.decreases-loop-depth
decreases-loop-depth l = left l.document.stored (going l.stack l.depth l.marks.0.now)

-- The walk has come upon meta-fields only.
use Rattle.std.proofs.Common.{◌≡◌, ℕ, List, length}
use Rattle.walking.specs.declared.turn.Scope.TheVariants.{Flat}
use Rattle.walking.specs.Introspection.{Meta}
use Rattle.walking.specs.Listed.{Among}
use Rattle.walking.specs.Turning.{going, left}
use Rattle.walking.proofs.Under.{Under}
use Rattle.walking.proofs.introspection.meets_meta_fields_only.Given as goal

abbrev pub invariant-loop-depth : goal.invariant-loop-depth
invariant-loop-depth l =
    (l.marks.0.ghost_name ≡ l.initial.marks.0.ghost_name)
    × (length l.marks.0.now ≡ length l.initial.marks.0.now)
    × (out : List ℕ)
    × Under l.document.stored Flat l.operation (going l.stack l.depth l.marks.0.now) out
    × ((p : ℕ) → Among p out → Meta l.document.stored p)

abbrev pub decreases-loop-depth : goal.decreases-loop-depth
decreases-loop-depth l = left l.document.stored (going l.stack l.depth l.marks.0.now)

-- Each turn judges one definition, after the end of the one before it.
use Rattle.std.proofs.Common.{◌≡◌, ◌+◌, ◌-◌, true, false, length, sym, ◌∙◌, refl, ap, add-one, arith}
use Rattle.std.proofs.lemmas.Bool.{or_left, or_right, or_from, not_from_true, not_from_false}
use Rattle.stored_tables.specs.Verdict.{whole_as, misplaced, definition_at, broken_definition}
use Rattle.stored_tables.proofs.Places.{place_here, place_on}
use Rattle.stored_tables.proofs.ranges.first_broken.Goals as goal
use Rattle.stored_tables.proofs.ranges.first_broken.Goals.{then-not-is_whole-via-then-not-is_whole, then-not-is_whole-via-else-not-is_whole+then-is_misplaced, then-not-is_whole-via-else-not-is_whole+else-is_misplaced+then-is_taken}

pub returns-then-not-is_whole : goal.returns-then-not-is_whole
returns-then-not-is_whole c =
    let ds = c.args.definitions.now in
    let i = c.loop-i.i in
    let broken = broken_definition (whole_as c.args.kind) c.args.rows ds in
    let here : broken i ≡ true =
    elim c.then-not-is_whole.branch [
      | then-not-is_whole-via-then-not-is_whole w ↦ or_left _ _ (not_from_false _ (sym c.is_whole.ensures ∙ w.if-not-is_whole.true))
      | then-not-is_whole-via-else-not-is_whole+then-is_misplaced w ↦ or_right _ _ (or_left _ _ (ap (λ s. misplaced s c.args.rows (definition_at ds i)) (sym c.loop-i.invariant.0) ∙ sym w.is_misplaced.ensures ∙ w.if-is_misplaced.true))
      | then-not-is_whole-via-else-not-is_whole+else-is_misplaced+then-is_taken w ↦ or_right _ _ (or_right _ _ (sym w.is_taken.ensures ∙ w.if-is_taken.true))
    ] in
    sym (place_here broken i (length ds - i) (length ds - (i + 1)) (omega arith) here) ∙ c.loop-i.invariant.1

pub loop-i-preserved : goal.loop-i-preserved
loop-i-preserved c =
    let ds = c.args.definitions.now in
    let i = c.loop-i.i in
    let broken = broken_definition (whole_as c.args.kind) c.args.rows ds in
    let here : broken i ≡ false =
    or_from _ _ (not_from_true _ (sym c.is_whole.ensures ∙ c.if-not-is_whole.false))
    (or_from _ _ (ap (λ s. misplaced s c.args.rows (definition_at ds i)) (sym c.loop-i.invariant.0) ∙ sym c.is_misplaced.ensures ∙ c.if-is_misplaced.false)
    (sym c.is_taken.ensures ∙ c.if-is_taken.false)) in
    (rw (add-one i) refl, sym (place_on broken i (length ds - i) (length ds - (i + 1)) (omega arith) here) ∙ c.loop-i.invariant.1)

-- Each turn counts the ranges of one row: only the first that is left of each table can hold it. The rows up to the next
-- bound are in the same ranges.
use Rattle.std.proofs.Common.{◌≡◌, ℕ, ◌+◌, ◌-◌, ◌<◌, ◌≤◌, true, false, length, sym, ◌∙◌, eq-eqb, arith}
use Rattle.std.proofs.lemmas.Bool.{ne_eqb, not_from_true, not_from_false}
use Rattle.stored_tables.specs.Verdict.{alone, all_stored, stray}
use Rattle.stored_tables.proofs.Places.{place_here, place_past}
use Rattle.stored_tables.proofs.Following.{left_on, left_held, held_in_all}
use Rattle.stored_tables.proofs.Bounds.{bound_ahead, bound_within, same_count, same_alone, same_stray}
use Rattle.stored_tables.proofs.stored.StoredDocument.first_stray.Goals as goal

pub returns-then-ranges-ne1 : goal.returns-then-ranges-ne1
returns-then-ranges-ne1 c =
    let n = length c.args.self.now.rows.now in
    let row = c.loop-row.row in
    let operations = c.args.self.now.operations.now in
    let fragments = c.args.self.now.fragments.now in
    let inv = c.loop-row.invariant in
    let a = c.held_by_first.ensures ∙ left_held n row operations c.loop-row.operations.now c.ending_behind-operations.result.now c.ending_behind-operations.ensures inv.1 in
    let b = c.held_by_first-in-loop-row.ensures ∙ left_held n row fragments c.loop-row.fragments.now c.ending_behind-fragments.result.now c.ending_behind-fragments.ensures inv.2 in
    let all = held_in_all row c.args.self.now.anonymous operations fragments _ _ _ a b c.held_by_anonymous.ensures in
    let here : stray (all_stored c.args.self.now.anonymous operations fragments) row ≡ true = rw (← all) (not_from_false _ (ne_eqb _ 1 c.if-ranges-ne1.true)) in
    sym (place_here (stray (all_stored c.args.self.now.anonymous operations fragments)) row (n - row) (n - (row + 1)) (omega arith) here) ∙ inv.3

pub loop-row-preserved : goal.loop-row-preserved
loop-row-preserved c =
    let n = length c.args.self.now.rows.now in
    let row = c.loop-row.row in
    let next = c.min-row.result in
    let anonymous = c.args.self.now.anonymous in
    let operations = c.args.self.now.operations.now in
    let fragments = c.args.self.now.fragments.now in
    let inv = c.loop-row.invariant in
    let first = c.ending_behind-operations.ensures in
    let second = c.ending_behind-fragments.ensures in
    let a = c.held_by_first.ensures ∙ left_held n row operations c.loop-row.operations.now c.ending_behind-operations.result.now first inv.1 in
    let b = c.held_by_first-in-loop-row.ensures ∙ left_held n row fragments c.loop-row.fragments.now c.ending_behind-fragments.result.now second inv.2 in
    let all = held_in_all row anonymous operations fragments _ _ _ a b c.held_by_anonymous.ensures in
    let here : stray (all_stored anonymous operations fragments) row ≡ false = rw (← all) (not_from_true _ (eq-eqb _ 1 c.if-ranges-ne1.false)) in
    let low : row ≤ next = omega (arith, bound_ahead n row c.ending_behind-operations.result.now c.loop-row-test.true, bound_ahead n row c.ending_behind-fragments.result.now c.loop-row-test.true, bound_ahead n row (alone anonymous) c.loop-row-test.true, c.first_bound.ensures, c.first_bound-in-loop-row.ensures, c.anonymous_bound.ensures, c.min.ensures, c.min-row.ensures) in
    let high : next ≤ n = omega (arith, bound_within n row (alone anonymous), c.anonymous_bound.ensures, c.min-row.ensures) in
    let same : (k : ℕ) → row ≤ k → k < next → stray (all_stored anonymous operations fragments) k ≡ false =
    λ k from below.
    same_stray n row k from anonymous operations fragments
    (same_count n row k from operations c.loop-row.operations.now c.ending_behind-operations.result.now first inv.1 (omega (arith, c.first_bound.ensures, c.min.ensures, c.min-row.ensures)))
    (same_count n row k from fragments c.loop-row.fragments.now c.ending_behind-fragments.result.now second inv.2 (omega (arith, c.first_bound-in-loop-row.ensures, c.min.ensures, c.min-row.ensures)))
    (same_alone n row k from anonymous (omega (arith, c.anonymous_bound.ensures, c.min-row.ensures)))
    ∙ here in (
      high,
      left_on n row next operations c.loop-row.operations.now c.ending_behind-operations.result.now low first inv.1,
      left_on n row next fragments c.loop-row.fragments.now c.ending_behind-fragments.result.now low second inv.2,
      sym (place_past (stray (all_stored anonymous operations fragments)) row next n low high same) ∙ inv.3,
    )

-- Each turn compares one row of both.
use Rattle.std.proofs.Common.{length, refl, rules, arith}
use Rattle.std.proofs.lemmas.Bool.{false≢true}
use Rattle.std.proofs.lemmas.Slice.Zip.{zip_turn, zip_end}
use Rattle.stored_tables.specs.Verdict.{no_stored_row}
use Rattle.comparison.proofs.Rows.{range, as_many, agree_at, same_if}
use Rattle.comparison.proofs.sets.same_set.Goals as goal
use Rattle.comparison.proofs.sets.same_set.Goals.{then-end_a-end_b-via-then-end_a-end_b, then-end_a-end_b-via-else-end_a-end_b+then-not-same_selection}

pub returns-then-rows_a-rows_b : goal.returns-then-rows_a-rows_b
returns-then-rows_a-rows_b c =
    (λ is. absurd (false≢true is), λ same. absurd (c.if-rows_a-rows_b.true (as_many _ _ _ _ _ _ c.requires.first c.requires.second same)))

pub returns-then-end_a-end_b : goal.returns-then-end_a-end_b
returns-then-end_a-end_b c =
    let a = c.args.a.now in
    let b = c.args.b.now in
    let here = zip_turn (range a.rows.now a.first a.end) (range b.rows.now b.first b.end) c.loop-row_a.yielded c.into_iter-row_a-iterator.result c.loop-row_a.row_a-iterator c.next.new.self c.next.result (search rules) (search rules) c.loop-row_a.yielded_by (c.in-Some.row_a, c.in-Some.row_b) c.in-Some.is c.next.ensures.steps in (
      λ is. absurd (false≢true is),
      λ same.
          let agree = agree_at _ _ _ _ _ _ c.requires.first c.requires.second same (length c.loop-row_a.yielded) no_stored_row c.in-Some.row_a.now c.in-Some.row_b.now here.0 (here.2 no_stored_row) (here.3 no_stored_row) in
          elim c.then-end_a-end_b.branch [
            | then-end_a-end_b-via-then-end_a-end_b w ↦ absurd (w.if-end_a-end_b.true agree.end)
            | then-end_a-end_b-via-else-end_a-end_b+then-not-same_selection w ↦ w.if-not-same_selection.ensures.1 agree.row
          ],
    )

pub returns : goal.returns
returns c =
    let a = c.args.a.now in
    let b = c.args.b.now in
    let over = zip_end (range a.rows.now a.first a.end) (range b.rows.now b.first b.end) c.loop-row_a.yielded c.into_iter-row_a-iterator.result c.loop-row_a.row_a-iterator c.next.new.self c.next.result (search rules) (search rules) c.loop-row_a.yielded_by c.in-None.is c.next.ensures.steps in
    let many = c.if-rows_a-rows_b.false in
    (λ is. same_if _ _ _ _ _ _ c.requires.first c.requires.second no_stored_row many (λ k low. c.loop-row_a.invariant k (omega (arith, over, many))), λ same. refl)

-- Each turn checks one row, and what stands beneath it.
use Rattle.std.proofs.Common.{◌≡◌, ◌+◌, ◌<◌, ℕ, List, map, length, get_or, sym, ap, ◌∙◌, rules, arith}
use Rattle.std.proofs.lemmas.List.{get_or-map}
use Rattle.std.proofs.lemmas.Result.{err_from_is_err_and}
use Rattle.refusal.proofs.Firsts.{is_fine, is_fault}
use Rattle.layout.specs.declared.row.RowView.{RowView}
use Rattle.layout.specs.Places.{no_view, misfit}
use Rattle.layout.proofs.Windows.{turn_here, turn_beneath, turn_on, turn_alone, turn_down}
use Rattle.layout.proofs.check.+check_set.Goals as goal

-- what is seen of the row that is read
seen_at : {R : Type 0} (seen : R → RowView) (rows : List R) (i : ℕ) (x : R) (v : RowView) → i < length rows → x ≡ get_or rows i x → v ≡ seen x → v ≡ get_or (map seen rows) i no_view
seen_at seen rows i x v low is view = view ∙ ap seen is ∙ sym (get_or-map seen rows i x no_view low)

pub returns-in_err-map_err : goal.returns-in_err-map_err
returns-in_err-map_err g t c =
    let rows = c.args.rows.now in
    let inv = c.loop-i.invariant in
    let here = seen_at g.R.Row.seen rows c.loop-i.i _ c.view-view.result (omega (arith, c.requires.within)) c.index-rows-i.is c.view-view.ensures in
    let p = err_from_is_err_and c.from_residual.result c.from_residual.ensures.1 in
    let bad = is_fault c.check_row.result c.in_err-map_err.ensures.variant in
    let cases = rw bad.1 at c.in_err-map_err.ensures.cases in
    let told : c.in_err-map_err.field-0.0 ≡ misfit bad.0 (c.loop-i.i + 1) = search rules in
    rw (p.1, p.2, told, ← inv.3) (turn_here (map g.R.Row.seen rows) _ _ _ _ c.view-view.result here c.loop-i-test.true inv.2 bad.0 (sym bad.1 ∙ c.check_row.ensures))

pub returns-in_err-check_set : goal.returns-in_err-check_set
returns-in_err-check_set g t c =
    let rows = c.args.rows.now in
    let inv = c.loop-i.invariant in
    let here = seen_at g.R.Row.seen rows c.loop-i.i _ c.view-view.result (omega (arith, c.requires.within)) c.index-rows-i.is c.view-view.ensures in
    let p = err_from_is_err_and c.from_residual-in_err-check_set.result c.from_residual-in_err-check_set.ensures.1 in
    let fits = sym (is_fine c.check_row.result c.in_ok-map_err.ensures.variant) ∙ c.check_row.ensures in
    rw (p.1, p.2, ← inv.3) (turn_beneath (map g.R.Row.seen rows) _ _ _ _ c.view-view.result here c.loop-i-test.true inv.2 _ fits c.in_err-check_set.ensures)

pub loop-i-preserved-then-next-end : goal.loop-i-preserved-then-next-end
loop-i-preserved-then-next-end g t c =
    let rows = c.args.rows.now in
    let inv = c.loop-i.invariant in
    let here = seen_at g.R.Row.seen rows c.loop-i.i _ c.view-view.result (omega (arith, c.requires.within)) c.index-rows-i.is c.view-view.ensures in
    let fits = sym (is_fine c.check_row.result c.in_ok-map_err.ensures.variant) ∙ c.check_row.ensures in
    let down = turn_down (map g.R.Row.seen rows) _ _ _ _ c.view-view.result here c.loop-i-test.true inv.2 fits c.if-next-end.true in
    (c.loop-i.i + 1, omega (arith, inv.1, inv.2.from), down.0, down.1 ∙ inv.3)

pub loop-i-preserved-in_ok-check_set : goal.loop-i-preserved-in_ok-check_set
loop-i-preserved-in_ok-check_set g t c =
    let rows = c.args.rows.now in
    let inv = c.loop-i.invariant in
    let here = seen_at g.R.Row.seen rows c.loop-i.i _ c.view-view.result (omega (arith, c.requires.within)) c.index-rows-i.is c.view-view.ensures in
    let fits = sym (is_fine c.check_row.result c.in_ok-map_err.ensures.variant) ∙ c.check_row.ensures in
    (inv.0, inv.1, turn_on (map g.R.Row.seen rows) _ _ _ _ c.view-view.result here c.loop-i-test.true inv.2 fits c.in_ok-check_set.ensures, inv.3)

pub loop-i-preserved : goal.loop-i-preserved
loop-i-preserved g t c =
    let rows = c.args.rows.now in
    let inv = c.loop-i.invariant in
    let here = seen_at g.R.Row.seen rows c.loop-i.i _ c.view-view.result (omega (arith, c.requires.within)) c.index-rows-i.is c.view-view.ensures in
    let fits = sym (is_fine c.check_row.result c.in_ok-map_err.ensures.variant) ∙ c.check_row.ensures in
    (inv.0, inv.1, turn_alone (map g.R.Row.seen rows) _ _ _ _ c.view-view.result here c.loop-i-test.true inv.2 fits (omega (arith, c.if-next-i.false)), inv.3)

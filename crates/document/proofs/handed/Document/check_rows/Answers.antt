-- Each turn checks the rows of one definition.
use Rattle.std.proofs.Common.{◌+◌, eqb, map, length, get_or, drop, None, sym, ap, ◌∙◌}
use Rattle.refusal.specs.Firsts.{or_else}
use Rattle.refusal.proofs.Firsts.{verdict_ok, is_fine}
use Rattle.document.specs.Rows.{selection_view}
use Rattle.document.specs.Verdict.{in_rows, rows_fault}
use Rattle.document.specs.Sets.{no_definition_row}
use Rattle.document.proofs.Steps.{rows_step, next_placed, range_search}
use Rattle.document.proofs.handed.Document.check_rows.Goals as goal

pub loop-row-preserved : goal.loop-row-preserved
loop-row-preserved c =
    let ds = c.args.self.now.definitions.now in
    let rows = c.args.self.now.rows.now in
    let views = map selection_view rows in
    let i = c.loop-row.row-index in
    let at = next_placed (length rows) c.loop-row.invariant.0.0 i ds c.loop-row-test.true c.loop-row.invariant.0.1 in
    let fits = sym (is_fine _ c.in_ok-map_err.ensures.variant) ∙ c.check_range.ensures.first in
    let found = range_search views (get_or ds i no_definition_row) (length rows) c.loop-row.invariant.0.0 (eqb (i + 1) (length ds)) None at.0 (sym (verdict_ok _ (sym fits))) in (
      ((get_or ds i no_definition_row).end, at.1),
      ap (λ m. or_else (in_rows m) (rows_fault views (drop (i + 1) ds))) found ∙ sym (rows_step views i ds c.loop-row-test.true) ∙ c.loop-row.invariant.1,
    )

-- The checks come in their order, and tables without a fault are one document.
use Rattle.std.proofs.Common.{◌≡◌, length, map, sym, ◌∙◌}
use Rattle.std.proofs.lemmas.Result.{err_from_is_err_and}
use Rattle.refusal.specs.Firsts.{or_else, verdict_of}
use Rattle.refusal.proofs.Firsts.{verdict_ok, passed, failed}
use Rattle.document.specs.Rows.{selection_view}
use Rattle.document.specs.Verdict.{definitions_fault, rows_fault, layout_fault, document_fault}
use Rattle.document.proofs.Documents.{judged}
use Rattle.document.proofs.handed.Document.check.Goals as goal

pub returns-in_err-check_definitions : goal.returns-in_err-check_definitions
returns-in_err-check_definitions c =
    let ds = c.args.self.now.definitions.now in
    let rows = c.args.self.now.rows.now in
    let p = err_from_is_err_and c.from_residual-in_err-check_definitions.result c.from_residual-in_err-check_definitions.ensures.1 in
    let verdict : c.from_residual-in_err-check_definitions.result ≡ verdict_of (document_fault ds rows) =
    rw (p.1, p.2)
    (failed _ (rows_fault (map selection_view rows) ds) _ c.in_err-check_definitions.ensures
    ∙ sym (passed _ (layout_fault ds rows) c.in_ok-check_sizes.ensures
    ∙ passed _ (or_else (definitions_fault (length rows) 0 0 ds) (rows_fault (map selection_view rows) ds)) c.in_ok-check_orphans.ensures)) in
    record { verdict = verdict; lawful = judged ds rows _ verdict }

pub check_rows-requires-clause-ranges : goal.check_rows-requires-clause-ranges
check_rows-requires-clause-ranges c = verdict_ok _ (sym c.in_ok-check_definitions.ensures)

pub returns : goal.returns
returns c =
    let ds = c.args.self.now.definitions.now in
    let rows = c.args.self.now.rows.now in
    let verdict =
    c.check_rows.ensures
    ∙ sym (passed _ (layout_fault ds rows) c.in_ok-check_sizes.ensures
    ∙ passed _ (or_else (definitions_fault (length rows) 0 0 ds) (rows_fault (map selection_view rows) ds)) c.in_ok-check_orphans.ensures
    ∙ passed _ (rows_fault (map selection_view rows) ds) c.in_ok-check_definitions.ensures) in
    record { verdict = verdict; lawful = judged ds rows _ verdict }

-- The first stray row and the first misfits of each table give the first row that breaks the layout.
use Rattle.std.proofs.Common.{map, length, ap, sym, ◌∙◌}
use Rattle.selection_rules.specs.Stored.{stored_view}
use Rattle.stored_tables.specs.Verdict.{alone}
use Rattle.stored_tables.specs.Ranges.{earlier}
use Rattle.stored_tables.proofs.Misfits.{misfits, put_together, with_none, with_one}
use Rattle.stored_tables.proofs.stored.StoredDocument.first_broken_row.Goals as goal

pub returns-in-Some : goal.returns-in-Some
returns-in-Some c =
    let views = map stored_view c.args.self.now.rows.now in
    let n = length c.args.self.now.rows.now in
    let operations = c.args.self.now.operations.now in
    let fragments = c.args.self.now.fragments.now in
    let anonymous = c.args.self.now.anonymous in
    let first = c.first_misfit-first.ensures ∙ ap (λ s. earlier s (misfits views n operations)) c.first_stray.ensures in
    let last = with_one views n c.in-Some.definition c.first_misfit-first-2.result c.earlier.result c.misfit_in.result c.earlier.ensures c.misfit_in.ensures in
    put_together views n anonymous operations fragments c.first_misfit-first.result c.first_misfit-first-2.result c.earlier.result first c.first_misfit-first-2.ensures
    (last ∙ ap (λ a. earlier c.first_misfit-first-2.result (misfits views n (alone a))) (sym c.in-Some.is))

pub returns-in-None : goal.returns-in-None
returns-in-None c =
    let views = map stored_view c.args.self.now.rows.now in
    let n = length c.args.self.now.rows.now in
    let operations = c.args.self.now.operations.now in
    let fragments = c.args.self.now.fragments.now in
    let anonymous = c.args.self.now.anonymous in
    let first = c.first_misfit-first.ensures ∙ ap (λ s. earlier s (misfits views n operations)) c.first_stray.ensures in
    put_together views n anonymous operations fragments c.first_misfit-first.result c.first_misfit-first-2.result c.first_misfit-first-2.result first c.first_misfit-first-2.ensures
    (with_none views n c.first_misfit-first-2.result ∙ ap (λ a. earlier c.first_misfit-first-2.result (misfits views n (alone a))) (sym c.in-None.is))

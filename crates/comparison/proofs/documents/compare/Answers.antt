-- The refusals come in their order, and else the documents are ready to be compared.
use Rattle.std.proofs.Common.{◌≡◌, refl, sym, ◌∙◌, rules}
use Rattle.std.proofs.lemmas.Bool.{false≢true}
use Rattle.std.proofs.lemmas.Result.{err_from_is_err_and}
use Rattle.refusal.proofs.Firsts.{is_fine, is_fault, verdict_ok, verdict_err}
use Rattle.comparison.specs.declared.fault.CompareFault.TheVariants.{First, Second}
use Rattle.comparison.specs.Comparing.{first, second, unfit, compared}
use Rattle.comparison.proofs.Ready.{ready}
use Rattle.comparison.proofs.documents.compare.Goals as goal

pub returns-in_err-map_err : goal.returns-in_err-map_err
returns-in_err-map_err c =
    let p = err_from_is_err_and c.from_residual.result c.from_residual.ensures.1 in
    let bad = is_fault c.check.result c.in_err-map_err.ensures.variant in
    let cases = rw bad.1 at c.in_err-map_err.ensures.cases in
    let told : c.in_err-map_err.field-0.0 ≡ First bad.0 = search rules in
    rw (p.1, p.2, told) (first bad.0 (verdict_err _ bad.0 (sym c.check.ensures ∙ bad.1)))

pub returns-in_err-map_err-2 : goal.returns-in_err-map_err-2
returns-in_err-map_err-2 c =
    let p = err_from_is_err_and c.from_residual-in_err-map_err-2.result c.from_residual-in_err-map_err-2.ensures.1 in
    let bad = is_fault c.check-2.result c.in_err-map_err-2.ensures.variant in
    let cases = rw bad.1 at c.in_err-map_err-2.ensures.cases in
    let told : c.in_err-map_err-2.field-0.0 ≡ Second bad.0 = search rules in
    let clean = verdict_ok _ (sym c.check.ensures ∙ is_fine c.check.result c.in_ok-map_err.ensures.variant) in
    rw (p.1, p.2, told) (second bad.0 clean (verdict_err _ bad.0 (sym c.check-2.ensures ∙ bad.1)))

pub returns-then-not-have_indexes : goal.returns-then-not-have_indexes
returns-then-not-have_indexes c =
    let clean = verdict_ok _ (sym c.check.ensures ∙ is_fine c.check.result c.in_ok-map_err.ensures.variant) in
    let other = verdict_ok _ (sym c.check-2.ensures ∙ is_fine c.check-2.result c.in_ok-map_err-2.ensures.variant) in
    unfit clean other (λ both. false≢true (c.if-not-have_indexes.ensures.1 both))

pub same_documents-requires-clause-first : goal.same_documents-requires-clause-first
same_documents-requires-clause-first c =
    let clean = verdict_ok _ (sym c.check.ensures ∙ is_fine c.check.result c.in_ok-map_err.ensures.variant) in
    ready c.args.a.now clean (c.if-not-have_indexes.ensures.0 refl).0

pub same_documents-requires-clause-second : goal.same_documents-requires-clause-second
same_documents-requires-clause-second c =
    let clean = verdict_ok _ (sym c.check-2.ensures ∙ is_fine c.check-2.result c.in_ok-map_err-2.ensures.variant) in
    ready c.args.b.now clean (c.if-not-have_indexes.ensures.0 refl).1

pub returns : goal.returns
returns c =
    let clean = verdict_ok _ (sym c.check.ensures ∙ is_fine c.check.result c.in_ok-map_err.ensures.variant) in
    let other = verdict_ok _ (sym c.check-2.ensures ∙ is_fine c.check-2.result c.in_ok-map_err-2.ensures.variant) in
    let both = c.if-not-have_indexes.ensures.0 refl in
    compared c.same_documents.result clean other both.0 both.1 c.same_documents.ensures

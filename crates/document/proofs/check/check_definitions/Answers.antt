-- Each turn finds the fault of one definition, or goes on.
use Rattle.std.proofs.Common.{◌≡◌, ◌+◌, refl, sym, ◌∙◌, rules}
use Rattle.std.proofs.lemmas.Result.{err_from_is_err_and}
use Rattle.refusal.proofs.Firsts.{is_fine, is_fault}
use Rattle.document.specs.declared.fault.DocumentFault.TheVariants.{InDefinitions}
use Rattle.document.proofs.Steps.{definition_here, definition_on}
use Rattle.document.proofs.check.check_definitions.Goals as goal

pub returns-in_err-map_err : goal.returns-in_err-map_err
returns-in_err-map_err c =
    let i = c.loop-i.i-counter in
    let p = err_from_is_err_and c.from_residual.result c.from_residual.ensures.1 in
    let bad = is_fault c.check_definition.result c.in_err-map_err.ensures.variant in
    let cases = rw bad.1 at c.in_err-map_err.ensures.cases in
    let told : c.in_err-map_err.field-0.0 ≡ InDefinitions bad.0 (i + 1) = search rules in
    rw (p.1, p.2, told) (definition_here c.args.rows c.loop-i.start i c.args.definitions.now _ bad.0 _ c.loop-i-test.true refl c.loop-i.invariant (sym bad.1 ∙ c.check_definition.ensures))

pub loop-i-preserved : goal.loop-i-preserved
loop-i-preserved c =
    definition_on c.args.rows c.loop-i.start c.loop-i.i-counter c.args.definitions.now _ _ c.loop-i-test.true refl c.loop-i.invariant
    (sym (is_fine c.check_definition.result c.in_ok-map_err.ensures.variant) ∙ c.check_definition.ensures)

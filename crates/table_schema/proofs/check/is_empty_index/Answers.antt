-- Slots that are all 0, and so many, are an empty index.
use Rattle.std.proofs.Common.{length, sym, ap, ◌∙◌, ◌&&◌, ◌==◌, rules}
use Rattle.std.proofs.lemmas.Bool.{eq-eqb}
use Rattle.std.proofs.lemmas.Iterator.{YieldsList-from_slice}
use Rattle.std.proofs.lemmas.Iterator.Search.{all_from_yields_List}
use borrow.Author.Tests.{tests}
use Rattle.table_schema.specs.Verdict.{zeros}
use Rattle.table_schema.proofs.check.is_empty_index.Goals as goal

pub returns-then-slots-size : goal.returns-then-slots-size
returns-then-slots-size c =
    let slots = c.args.slots.now in
    let told = all_from_yields_List (λ s. s == 0) _ _ c.all.result c.all.ensures.ran (YieldsList-from_slice slots cc) (λ x b q k. search (rules, tests)) in
    told ∙ sym (ap (λ b. b && zeros slots) (eq-eqb (length slots) c.args.size c.if-slots-size.true))

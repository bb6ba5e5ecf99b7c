-- The row that is found is the first one of the name.
use Rattle.std.proofs.Common.{rules, ◌∙◌}
use Rattle.std.proofs.lemmas.Iterator.{first_from_find, YieldsList-from_slice}
use borrow.Author.Tests.{tests}
use Rattle.schema.specs.Meta.{meta_fields}
use Rattle.schema.proofs.Rows.{Is, IsNot, row_of-first}
use Rattle.schema.proofs.meta.meta_row.Goals as goal

pub returns : goal.returns
returns c =
    c.copied.ensures
    ∙ row_of-first c.args.name meta_fields c.find.result
    (first_from_find _ _ _ (Is c.args.name) (IsNot c.args.name) c.find.ensures.ran (YieldsList-from_slice meta_fields c.iter.ensures.rest)
    (λ x q k. search (rules, tests)) (λ x q k. search (rules, tests)))

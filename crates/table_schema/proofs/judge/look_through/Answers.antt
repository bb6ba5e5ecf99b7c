-- Looking through all rows finds the first.
use Rattle.std.proofs.Common.{◌∙◌, rules}
use Rattle.std.proofs.lemmas.Iterator.{YieldsList-from_slice}
use Rattle.std.proofs.lemmas.Iterator.Adapters.{position_from-zero}
use Rattle.std.proofs.lemmas.Iterator.Search.{position_from_yields_List}
use borrow.Author.Tests.{tests}
use Rattle.table_schema.proofs.judge.look_through.Goals as goal

pub returns : goal.returns
returns g c =
    let rows = c.args.rows.now in
    position_from_yields_List (λ e. g.E.Of.PartialEq.eq (g.E.Entry.keyed e) c.args.key.now) _ _ c.position.result c.position.ensures.ran (YieldsList-from_slice rows cc) (λ x b q k. search (rules, tests))
    ∙ position_from-zero (λ e. g.E.Of.PartialEq.eq (g.E.Entry.keyed e) c.args.key.now) rows

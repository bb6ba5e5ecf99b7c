-- What is read of a set is the first row of its forest.
use Rattle.std.proofs.Common.{◌≡◌, Some, rules, subst}
use Rattle.document.specs.Sets.{step_at, next_of, Follows}
use Rattle.document.proofs.Sets.{next_follows}
use Rattle.document.proofs.handed.Document.next_selection.Goals as goal

pub returns-clause-forest : goal.returns-clause-forest
returns-clause-forest c =
    let rows = c.args.self.now.rows.now in
    let same : next_of rows c.args.set ≡ Some (step_at c.in_ok-row.row.now c.args.set.next c.args.set.end) = search rules in
    λ f h. subst (Follows rows c.args.set f) same (next_follows rows c.args.set f h)

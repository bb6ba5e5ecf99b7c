-- The operation that is judged is walked, with the marks that the guard has cleared.
use Rattle.walking.proofs.Exact.{listed}
use Rattle.walking.proofs.Shapes.{walkable}
use Rattle.walking.proofs.fields.walk_fields.Goals as goal

pub list_fields-requires-clause-walkable : goal.list_fields-requires-clause-walkable
list_fields-requires-clause-walkable c = walkable c.args.document.now c.args.operation c.args.lent c.in_ok-definition.definition c.in_ok-definition.ensures

pub returns-clause-answer : goal.returns-clause-answer
returns-clause-answer c =
    let s = c.in_ok-definition.definition in
    let l = c.list_fields.ensures.listing in
    record {
      definition = s;
      accepted = c.in_ok-definition.ensures;
      places = l.0;
      lists = listed c.args.document.now.stored s (walkable c.args.document.now c.args.operation c.args.lent s c.in_ok-definition.ensures) l.0 l.1;
      counted = l.2;
      listed = l.3;
    }

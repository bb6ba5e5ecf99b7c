-- The operation that is judged can be walked.
use Rattle.std.proofs.Common.{length, replicate, zero, arith}
use Rattle.std.proofs.lemmas.List.{length-replicate}
use Rattle.walking.specs.declared.turn.Scope.TheVariants.{Flat}
use Rattle.walking.proofs.Going.{outcome}
use Rattle.walking.proofs.Orders.{alike}
use Rattle.walking.proofs.Shapes.{walkable}
use Rattle.walking.proofs.introspection.is_introspection.Goals as goal

pub meets_meta_fields_only-requires-clause-walkable : goal.meets_meta_fields_only-requires-clause-walkable
meets_meta_fields_only-requires-clause-walkable c = walkable c.args.document.now c.args.operation _ c.in_ok-definition.definition c.in_ok-definition.ensures

pub returns-clause-answer : goal.returns-clause-answer
returns-clause-answer c =
    let d = c.args.document.now.stored in
    let s = c.in_ok-definition.definition in
    let ok = walkable c.args.document.now c.args.operation _ s c.in_ok-definition.ensures in
    let w = outcome d ok.shape Flat (replicate (length d.fragments.now) zero) (omega (arith, length-replicate (length d.fragments.now) zero)) s.row.first s.row.end ok.within in
    record {
      definition = s;
      accepted = c.in_ok-definition.ensures;
      places = w.0;
      listing = record { after = w.1; walk = w.2 };
      only = λ others other. (alike d ok.shape Flat other.walk w.2).0;
      decides = c.meets_meta_fields_only.ensures.answer w.0 (record { after = w.1; walk = w.2 });
    }

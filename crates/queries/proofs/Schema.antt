-- The meter schema keeps the law, and knows each type that it answers with.
use Rattle.std.proofs.Common.{refl, rules}
use Rattle.schema.specs.Meaning.{Closed}
use Rattle.schema.specs.Law.{Lawful}
use Rattle.schema.specs.Laws.{meta_lawful}
use Rattle.table_schema.specs.Meaning.{rows_meaning}
use Rattle.queries.specs.Meters.{types, fields, roots, meters, MetersAreASchema}

lawful : Lawful (rows_meaning types fields roots)
lawful = record {
  unknown = λ t f is. search rules;
  present = λ t f is. search rules;
  sorted = λ t is. search rules;
}

closed : Closed meters
closed = record {
  roots = λ operation t is. search rules;
  inners = λ t f x is. search rules;
}

pub meters_are_a_schema : MetersAreASchema
meters_are_a_schema = record { rows = refl; lawful = meta_lawful _ lawful; closed = closed }

-- The law of schemas holds of the open schema, and stays when the meta-fields are added.
use Rattle.std.proofs.Common.{rules}
use Rattle.schema.specs.Meaning.{Meaning}
use Rattle.schema.specs.Law.{Lawful}
use Rattle.schema.specs.Open.{open_meaning}
use Rattle.schema.specs.Meta.{with_meta}

pub open_lawful : Lawful open_meaning
open_lawful = record {
  unknown = λ t f is. cc;
  present = λ t f is other. cc;
  sorted = λ t is. cc;
}

pub meta_lawful : (m : Meaning) → Lawful m → Lawful (with_meta m)
meta_lawful m law = record {
  unknown = λ t f is. search rules;
  present = λ t f is. search rules;
  sorted = law.sorted;
}

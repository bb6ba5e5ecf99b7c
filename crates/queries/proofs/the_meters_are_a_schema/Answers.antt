-- The table of the meters is a schema, and a closed one.
use Rattle.queries.proofs.Schema.{meters_are_a_schema}
use Rattle.queries.proofs.the_meters_are_a_schema.Goals as goal

pub returns : goal.returns
returns c = meters_are_a_schema

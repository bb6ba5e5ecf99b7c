-- The table that was made, with the meta-fields added.
use Rattle.schema.specs.Meta.{with_meta}
use Rattle.table_schema.proofs.original.schema_with_meta_fields.Goals as goal

pub returns : goal.returns
returns c = let told = c.in_ok-new.ensures in (told.0, λ i. with_meta (told.1 i))

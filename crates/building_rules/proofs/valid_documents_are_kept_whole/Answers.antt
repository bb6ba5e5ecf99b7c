-- Of valid definitions everything is kept.
use Rattle.building_rules.proofs.Wholes.{valid_is_kept_whole}
use Rattle.building_rules.proofs.valid_documents_are_kept_whole.Goals as goal

pub returns : goal.returns
returns g c = valid_is_kept_whole _ (g.met.S.Schema.lawful c.args.schema.now)

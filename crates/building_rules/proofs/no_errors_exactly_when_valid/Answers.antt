-- No error is listed exactly when the eight rules are kept.
use Rattle.building_rules.proofs.Joined.{no_errors_exactly_when_valid}
use Rattle.building_rules.proofs.no_errors_exactly_when_valid.Goals as goal

pub returns : goal.returns
returns g c = no_errors_exactly_when_valid _ (g.met.S.Schema.lawful c.args.schema.now)

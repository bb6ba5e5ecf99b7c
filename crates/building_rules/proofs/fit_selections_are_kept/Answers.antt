-- What is stored is exactly what is kept.
use Rattle.building_rules.proofs.Keeping.{kept_exactly}
use Rattle.building_rules.proofs.fit_selections_are_kept.Goals as goal

pub returns : goal.returns
returns c = kept_exactly

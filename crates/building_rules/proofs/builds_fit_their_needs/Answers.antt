-- What definitions come to fits into what is needed, which of documents is what `needs_of` tells.
use Rattle.building_rules.proofs.Fits.{builds_fit, needs_of_documents}
use Rattle.building_rules.proofs.builds_fit_their_needs.Goals as goal

pub returns : goal.returns
returns c = (builds_fit, needs_of_documents)

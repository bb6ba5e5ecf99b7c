-- The document that is read from two tables is the one whose layout they are.
use Rattle.building_rules.proofs.Histories.{documents_are_read}
use Rattle.building_rules.proofs.documents_are_read.Goals as goal

pub returns : goal.returns
returns c = documents_are_read

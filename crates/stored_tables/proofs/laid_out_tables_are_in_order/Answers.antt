-- Kept definitions, laid out, are without a fault.
use Rattle.stored_tables.proofs.Clean.{clean}
use Rattle.stored_tables.proofs.laid_out_tables_are_in_order.Goals as goal

pub returns : goal.returns
returns c = clean

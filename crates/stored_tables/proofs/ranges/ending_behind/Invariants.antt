-- Nothing is passed over that ends behind the row.
use Rattle.std.proofs.Common.{◌≡◌, length}
use Rattle.stored_tables.specs.Ranges.{from_row}
use Rattle.stored_tables.proofs.ranges.ending_behind.Given as goal

abbrev pub invariant-loop-rest : goal.invariant-loop-rest
invariant-loop-rest l = from_row l.row l.rest ≡ from_row l.row l.definitions

abbrev pub decreases-loop-rest : goal.decreases-loop-rest
decreases-loop-rest l = length l.rest

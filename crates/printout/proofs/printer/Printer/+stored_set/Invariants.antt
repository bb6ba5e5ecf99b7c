-- The levels that are left grow fewer.
use Rattle.std.proofs.Common.{◌-◌}
use Rattle.printout.proofs.printer.Printer.+stored_set.Given as goal

abbrev pub decreases-stored_set : goal.decreases-stored_set
decreases-stored_set l = 32 - l.depth

-- The levels that are left grow fewer.
use Rattle.std.proofs.Common.{◌-◌}
use Rattle.printout.proofs.printer.Printer.+selections.Given as goal

abbrev pub decreases-selections : goal.decreases-selections
decreases-selections l = 32 - l.depth

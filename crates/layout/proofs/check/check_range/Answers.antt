-- The row that is told is one of the rows.
use Rattle.std.proofs.Common.{◌-◌, map, length, arith}
use Rattle.layout.specs.Places.{fault_in}
use Rattle.layout.proofs.Windows.{inside_rows}
use Rattle.layout.proofs.check.check_range.Goals as goal

pub returns-clause-inside : goal.returns-clause-inside
returns-clause-inside g c =
    let rows = c.args.rows.now in
    let start = c.min.result in
    let end = c.min-end.result in
    inside_rows (fault_in (map g.R.Row.seen rows) start end c.args.room) start (end - start) (length rows) c.check_set.result (omega arith) c.check_set.ensures

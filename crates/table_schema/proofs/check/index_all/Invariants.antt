-- The rows so far are indexed, and the rows to come have the first fault.
use Rattle.std.proofs.Common.{◌≡◌, ◌-◌, length}
use Rattle.ordered_index.specs.Sound.{Sound, keys_of}
use Rattle.refusal.specs.Firsts.{first_fault}
use Rattle.table_schema.specs.Verdict.{fault_at}
use Rattle.table_schema.proofs.check.index_all.Given as goal

abbrev pub invariant-loop-i : goal.invariant-loop-i
invariant-loop-i g l =
    let row = g.R.SchemaRow in
    let fault = fault_at (row.fault_behind l.beside) l.rows in
    Sound g.R.Of.PartialEq.eq g.R.Of.Key.digest (keys_of g.R.Entry.keyed l.i l.rows) l.slots
    × (first_fault row.told_as fault l.i (length l.rows - l.i) ≡ first_fault row.told_as fault 0 (length l.rows))

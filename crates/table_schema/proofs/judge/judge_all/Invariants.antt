use Rattle.std.proofs.Common.{◌≡◌, ◌-◌, length}
use Rattle.refusal.specs.Firsts.{first_fault}
use Rattle.table_schema.specs.Verdict.{fault_at}
use Rattle.table_schema.proofs.judge.judge_all.Given as goal

-- the rows to come have the first fault
abbrev pub invariant-loop-i : goal.invariant-loop-i
invariant-loop-i g l =
    let row = g.R.SchemaRow in
    let fault = fault_at (row.fault_behind l.beside) l.rows in
    first_fault row.told_as fault l.i (length l.rows - l.i) ≡ first_fault row.told_as fault 0 (length l.rows)

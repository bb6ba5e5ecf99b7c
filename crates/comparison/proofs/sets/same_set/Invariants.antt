-- The rows so far agree.
use Rattle.std.proofs.Common.{ℕ, ◌<◌, length, get_or}
use Rattle.stored_tables.specs.Verdict.{no_stored_row}
use Rattle.comparison.proofs.Rows.{range, Agree}
use Rattle.comparison.proofs.sets.same_set.Given as goal

abbrev pub invariant-loop-row_a : goal.invariant-loop-row_a
invariant-loop-row_a l =
    (k : ℕ) → k < length l.yielded → Agree l.a.first l.b.first (get_or (range l.a.rows.now l.a.first l.a.end) k no_stored_row) (get_or (range l.b.rows.now l.b.first l.b.end) k no_stored_row)

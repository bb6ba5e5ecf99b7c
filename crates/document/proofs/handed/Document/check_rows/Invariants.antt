-- The ranges to come are in place, and their rows have the first fault of all.
use Rattle.std.proofs.Common.{◌≡◌, ℕ, map, length, drop, None}
use Rattle.document.specs.Rows.{selection_view}
use Rattle.document.specs.Verdict.{definitions_fault, rows_fault}
use Rattle.document.proofs.handed.Document.check_rows.Given as goal

abbrev pub invariant-loop-row : goal.invariant-loop-row
invariant-loop-row l =
    ((start : ℕ) × (definitions_fault (length l.self.rows.now) start l.row-index (drop l.row-index l.self.definitions.now) ≡ None))
    × (rows_fault (map selection_view l.self.rows.now) (drop l.row-index l.self.definitions.now) ≡ rows_fault (map selection_view l.self.rows.now) l.self.definitions.now)

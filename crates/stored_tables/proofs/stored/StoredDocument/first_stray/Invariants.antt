-- What is left of each table counts for the rows to come, which have the first stray row of all.
use Rattle.std.proofs.Common.{◌≡◌, ◌-◌, ◌≤◌, length}
use Rattle.stored_tables.specs.Verdict.{first_place, all_stored, stray}
use Rattle.stored_tables.proofs.Following.{Left}
use Rattle.stored_tables.proofs.stored.StoredDocument.first_stray.Given as goal

abbrev pub invariant-loop-row : goal.invariant-loop-row
invariant-loop-row l =
    let rows = length l.self.rows.now in
    let stray_row = stray (all_stored l.self.anonymous l.self.operations.now l.self.fragments.now) in
    (l.row ≤ rows)
    × Left rows l.row l.self.operations.now l.operations
    × Left rows l.row l.self.fragments.now l.fragments
    × (first_place stray_row l.row (rows - l.row) ≡ first_place stray_row 0 rows)

abbrev pub decreases-loop-row : goal.decreases-loop-row
decreases-loop-row l = length l.self.rows.now - l.row

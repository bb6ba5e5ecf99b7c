-- The definitions to come have the first of all that breaks the layout.
use Rattle.std.proofs.Common.{◌≡◌, ◌-◌, length}
use Rattle.stored_tables.specs.Verdict.{first_place, whole_as, broken_definition, end_before}
use Rattle.stored_tables.proofs.ranges.first_broken.Given as goal

abbrev pub invariant-loop-i : goal.invariant-loop-i
invariant-loop-i l =
    let broken = broken_definition (whole_as l.kind) l.rows l.definitions in
    (l.start ≡ end_before l.definitions l.i)
    × (first_place broken l.i (length l.definitions - l.i) ≡ first_place broken 0 (length l.definitions))

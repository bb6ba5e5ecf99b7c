-- The definitions to come have the first fault of all.
use Rattle.std.proofs.Common.{◌≡◌, drop}
use Rattle.document.specs.Verdict.{definitions_fault}
use Rattle.document.proofs.check.check_definitions.Given as goal

abbrev pub invariant-loop-i : goal.invariant-loop-i
invariant-loop-i l =
    definitions_fault l.rows l.start l.i-counter (drop l.i-counter l.definitions) ≡ definitions_fault l.rows 0 0 l.definitions

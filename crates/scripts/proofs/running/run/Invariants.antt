-- What is answered and what is left is what all comes to.
use Rattle.std.proofs.Common.{◌≡◌}
use Rattle.scripts.specs.Running.{begun}
use Rattle.scripts.proofs.Turns.{Going}
use Rattle.scripts.proofs.running.run.Given as goal

abbrev pub invariant-loop-i : goal.invariant-loop-i
invariant-loop-i g l =
    Going g.S.Schema.meaning (g.S.Schema.meaning l.schema) l.initial.tables (begun l.initial.tables) l.initial.script l.i l.builder l.tables l.script
    × (l.builder.schema ≡ l.initial.builder.schema)

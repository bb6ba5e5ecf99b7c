-- Each definition so far is the same as one of the other table.
use Rattle.std.proofs.Common.{ℕ, ◌<◌, length}
use Rattle.stored_tables.specs.Verdict.{definition_at}
use Rattle.finished_rules.specs.SameTables.{SameDefinition}
use Rattle.comparison.proofs.tables.same_table.Given as goal

abbrev pub invariant-loop-definition : goal.invariant-loop-definition
invariant-loop-definition l =
    (i : ℕ) → i < l.definition-index → (k : ℕ) × (k < length l.b.definitions.now) × SameDefinition l.a.rows.now l.b.rows.now (definition_at l.a.definitions.now i) (definition_at l.b.definitions.now k)

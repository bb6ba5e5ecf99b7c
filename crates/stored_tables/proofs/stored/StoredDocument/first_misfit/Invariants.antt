-- What was found, and what the definitions to come have, is what all of them have.
use Rattle.std.proofs.Common.{◌≡◌, ℕ, List, Option, map, length, drop}
use Rattle.selection_rules.specs.Stored.{stored_view}
use Rattle.stored_tables.specs.declared.definition.StoredDefinition.{StoredDefinition}
use Rattle.stored_tables.specs.Verdict.{first_place, unfit_in}
use Rattle.stored_tables.specs.Ranges.{InOrder, earlier}
use Rattle.stored_tables.proofs.stored.StoredDocument.first_misfit.Given as goal

abbrev pub invariant-loop-definition : goal.invariant-loop-definition
invariant-loop-definition l =
    let rows = l.self.rows.now in
    let misfits : List StoredDefinition → Option ℕ = λ ds. first_place (unfit_in (map stored_view rows) ds) 0 (length rows) in
    InOrder (length rows) 0 (drop l.definition-index l.definitions)
    × (earlier l.first (misfits (drop l.definition-index l.definitions)) ≡ earlier l.fn.before (misfits l.definitions))

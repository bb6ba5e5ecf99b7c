-- The set of a definition stands for its selections, and past the last for none.
use Rattle.std.proofs.Common.{◌≡◌, ◌<◌, length, get_or, rules, subst}
use Rattle.document.specs.declared.handed.sets.SelectionSet.{SelectionSet}
use Rattle.document.specs.Document.{no_definition}
use Rattle.document.specs.Sets.{set_of, no_definition_row, Holds}
use Rattle.document.proofs.Sets.{row_holds, past_holds}
use Rattle.document.proofs.handed.Document.selections.Goals as goal

pub returns-in-Some-clause-forest : goal.returns-in-Some-clause-forest
returns-in-Some-clause-forest c =
    let ds = c.args.self.now.definitions.now in
    let rows = c.args.self.now.rows.now in
    let k = c.args.definition in
    let low : k < length ds = search rules in
    let same : set_of (get_or ds k no_definition_row).first (get_or ds k no_definition_row).end ≡ c.selections.result = search rules in
    λ document is. subst (λ (set : SelectionSet). Holds rows set (get_or document k no_definition).selected) same (row_holds rows ds document k is low)

pub returns-in-None-clause-forest : goal.returns-in-None-clause-forest
returns-in-None-clause-forest c = λ document is. past_holds c.args.self.now.rows.now c.args.self.now.definitions.now document c.args.definition is (search rules)

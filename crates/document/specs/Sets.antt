-- Sets of selections, as they are read from the rows: each stands for a forest.
use Rattle.std.specs.Prelude.{◌≡◌, ℕ, ◌+◌, ◌≤◌, cond, ◌||◌, List, length, Some, None, Option, nat_le, slice_get, slice_index_or, option_map, unwrap_or}
use Rattle.layout.specs.Forest.{Forest, none, row}
use Rattle.layout.specs.Shapes.{Stand}
use Rattle.document.specs.declared.rows.DefinitionRow.{DefinitionRow}
use Rattle.document.specs.declared.rows.SelectionRow.{SelectionRow}
use Rattle.document.specs.declared.handed.sets.SelectionSet.{SelectionSet}
use Rattle.document.specs.declared.handed.sets.SelectionStep.{SelectionStep}
use Rattle.document.specs.Rows.{Selection, selections, selection_of}

abbrev pub no_row : SelectionRow
no_row =
    record { kind = 0; name = 0; alias = 0; condition = 0; arguments = 0; directives = 0; location = 0; name_location = 0; condition_location = 0; end = 0 }

abbrev pub set_of : ℕ → ℕ → SelectionSet
set_of next end = record { next = next; end = end }

abbrev pub no_definition_row : DefinitionRow
no_definition_row =
    record { kind = 0; operation_type = 0; name = 0; condition = 0; variables = 0; directives = 0; location = 0; name_location = 0; condition_location = 0; first = 0; end = 0 }

-- the set of a definition, by its place; an empty one past the last definition
abbrev pub set_for : List DefinitionRow → ℕ → SelectionSet
set_for definitions k =
    unwrap_or (option_map (λ d. set_of d.first d.end) (slice_get definitions k)) (set_of 0 0)

abbrev pub step_at : SelectionRow → ℕ → ℕ → SelectionStep
step_at r place end = record { place = place; row = r; beneath = set_of (place + 1) r.end; after = set_of r.end end }

-- the next selection of a set, on any rows
abbrev pub next_of : List SelectionRow → SelectionSet → Option SelectionStep
next_of rows set =
    cond (nat_le set.end set.next || nat_le (length rows) set.next) None
    (Some (step_at (slice_index_or rows set.next no_row) set.next set.end))

-- a set stands for a forest: from its next row up to its end stand the rows of the forest
pub record Holds (rows : List SelectionRow) (set : SelectionSet) (f : Forest Selection) : Type 0 where
  pub stand : Stand selections rows set.next set.end f
  pub within : set.end ≤ length rows

-- what is read of a set is the first row of its forest, with what stands beneath and after it
abbrev pub Follows : List SelectionRow → SelectionSet → Forest Selection → Option SelectionStep → Type 0
Follows rows set none r = r ≡ None
Follows rows set (row s below after) None = ⊥
Follows rows set (row s below after) (Some step) =
    (step.place ≡ set.next) × (selection_of step.row ≡ s) × Holds rows step.beneath below × Holds rows step.after after

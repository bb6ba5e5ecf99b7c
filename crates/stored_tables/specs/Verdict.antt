-- The first fault of stored definitions and rows that are handed back.
use Rattle.std.specs.Prelude.{ℕ, zero, suc, ◌+◌, ◌-◌, ◌^◌, min, Bool, false, cond, not, ◌&&◌, ◌||◌, List, [], ◌∷◌, ◌++◌, map, length, take, is_some, count_by, Some, None, Option, ◌==◌, nat_le, nat_lt, slice_index_or}
use Rattle.std.specs.List.{list_any}
use Rattle.refusal.specs.Firsts.{or_else}
use Rattle.layout.specs.declared.row.RowView.{RowView}
use Rattle.layout.specs.Places.{fault_in}
use Rattle.document.specs.Rows.{is_operation, is_fragment, named_operation, head_unnamed, head_broken}
use Rattle.document.specs.Sets.{no_row, no_definition_row}
use Rattle.document.specs.declared.kinds.DefinitionKind.{DefinitionKind}
use Rattle.document.specs.declared.kinds.DefinitionKind.TheVariants.{Operation, Fragment, TypeSystem}
use Rattle.selection_rules.specs.declared.stored.StoredRow.{StoredRow}
use Rattle.selection_rules.specs.Stored.{stored_view}
use Rattle.stored_tables.specs.declared.definition.StoredDefinition.{StoredDefinition}
use Rattle.stored_tables.specs.declared.stored.StoredDocument.{StoredDocument}
use Rattle.stored_tables.specs.declared.fault.StoredFault.{StoredFault}
use Rattle.stored_tables.specs.declared.fault.StoredFault.TheVariants.{InAnonymous, InOperations, InFragments, InRows}
use Rattle.stored_tables.specs.Layout.{stored_head}

-- the first of so many places, from i on, that passes the test
abbrev pub first_place : (ℕ → Bool) → ℕ → ℕ → Option ℕ
first_place test i zero = None
first_place test i (suc left) = cond (test i) (Some i) (first_place test (i + 1) left)

-- What stands past the last of a table

abbrev pub no_stored_definition : StoredDefinition
no_stored_definition = record { row = no_definition_row; set_type = 0 }

abbrev pub no_stored_row : StoredRow
no_stored_row = record { selection = no_row; place = 0; set_type = 0 }

-- The definitions

abbrev pub definition_at : List StoredDefinition → ℕ → StoredDefinition
definition_at ds i = slice_index_or ds i no_stored_definition

-- an operation without a name; a named one; a fragment, with its condition as the type of its set. All keep the rules of
-- their members
abbrev pub anonymous_whole : StoredDefinition → Bool
anonymous_whole d = is_operation (stored_head d) && ((d.row.name == 0) && not (head_broken (stored_head d)))

abbrev pub operation_whole : StoredDefinition → Bool
operation_whole d = named_operation (stored_head d) && not (head_broken (stored_head d))

abbrev pub fragment_whole : StoredDefinition → Bool
fragment_whole d =
    is_fragment (stored_head d)
    && (not (head_unnamed (stored_head d)) && (not (head_broken (stored_head d)) && (d.set_type == d.row.condition)))

-- whether a table of definitions of this kind may hold the definition; none is of the type system
abbrev pub whole_as : DefinitionKind → StoredDefinition → Bool
whole_as Operation = operation_whole
whole_as Fragment = fragment_whole
whole_as TypeSystem = λ d. false

-- a range is out of place that begins before `start`, ends before it begins, or ends behind the rows
abbrev pub misplaced : ℕ → ℕ → StoredDefinition → Bool
misplaced start rows d = nat_lt d.row.first start || (nat_lt d.row.end d.row.first || nat_lt rows d.row.end)

-- where the definition before the one at a place ends
abbrev pub end_before : List StoredDefinition → ℕ → ℕ
end_before ds zero = 0
end_before ds (suc i) = (definition_at ds i).row.end

-- whether a definition before the one at a place has its name
abbrev pub repeated : List StoredDefinition → ℕ → Bool
repeated ds i = list_any (λ d. d.row.name == (definition_at ds i).row.name) (take i ds)

-- whether the definition at a place of a table breaks the layout
abbrev pub broken_definition : (StoredDefinition → Bool) → ℕ → List StoredDefinition → ℕ → Bool
broken_definition whole rows ds i =
    not (whole (definition_at ds i)) || (misplaced (end_before ds i) rows (definition_at ds i) || repeated ds i)

abbrev pub anonymous_broken : ℕ → Option StoredDefinition → Bool
anonymous_broken rows None = false
anonymous_broken rows (Some d) = not (anonymous_whole d) || misplaced 0 rows d

-- The rows

-- whether a row stands in the range of a definition
abbrev pub holds : ℕ → StoredDefinition → Bool
holds row d = nat_le d.row.first row && nat_lt row d.row.end

-- whether a row stands in the range of a definition and does not fit there, at most 32 deep
abbrev pub unfit : List RowView → ℕ → StoredDefinition → Bool
unfit views row d = holds row d && is_some (fault_in views d.row.first d.row.end 32 row)

-- whether a row stands in none of the ranges, or in several
abbrev pub stray : List StoredDefinition → ℕ → Bool
stray ds row = not (count_by (holds row) ds == 1)

-- whether a row does not fit a range in which it stands
abbrev pub unfit_in : List RowView → List StoredDefinition → ℕ → Bool
unfit_in views ds row = list_any (unfit views row) ds

-- each stored row is in exactly one range, and fits there; else it breaks the layout
abbrev pub broken_row : List RowView → List StoredDefinition → ℕ → Bool
broken_row views ds row = stray ds row || unfit_in views ds row

-- the anonymous operation, if there is one
abbrev pub alone : Option StoredDefinition → List StoredDefinition
alone None = []
alone (Some d) = d ∷ []

-- all definitions that are stored
abbrev pub all_stored : Option StoredDefinition → List StoredDefinition → List StoredDefinition → List StoredDefinition
all_stored anonymous operations fragments = operations ++ (fragments ++ alone anonymous)

-- a fault is told with the place plus 1
abbrev pub told_in : (ℕ → StoredFault) → Option ℕ → Option StoredFault
told_in told None = None
told_in told (Some i) = Some (told (i + 1))

-- the anonymous operation, then named operations, fragments and rows
abbrev pub stored_fault : Option StoredDefinition → List StoredDefinition → List StoredDefinition → List StoredRow → Option StoredFault
stored_fault anonymous operations fragments rows =
    or_else (cond (anonymous_broken (length rows) anonymous) (Some InAnonymous) None)
    (or_else (told_in InOperations (first_place (broken_definition (whole_as Operation) (length rows) operations) 0 (length operations)))
    (or_else (told_in InFragments (first_place (broken_definition (whole_as Fragment) (length rows) fragments) 0 (length fragments)))
    (told_in InRows (first_place (broken_row (map stored_view rows) (all_stored anonymous operations fragments)) 0 (length rows)))))

-- the first fault of what is stored
abbrev pub fault_of : StoredDocument → Option StoredFault
fault_of d = stored_fault d.anonymous d.operations.now d.fragments.now d.rows.now

-- the place, plus 1, that a fault tells, or 0
abbrev pub row_of : StoredFault → ℕ
row_of InAnonymous = 0
row_of (InOperations row) = row
row_of (InFragments row) = row
row_of (InRows row) = row

-- the same as a refusal tells it: one past the numbers of 32 bits as the greatest of them
abbrev pub row_number : StoredFault → ℕ
row_number fault = min (row_of fault) (2 ^ 32 - 1)

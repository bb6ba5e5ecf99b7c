-- The first fault of two tables that are handed over as a document.
use Rattle.std.specs.Prelude.{ℕ, ◌+◌, Bool, true, false, cond, not, ◌&&◌, ◌||◌, List, [], ◌∷◌, map, length, Some, None, Ok, Err, Option, Result, ◌==◌, nat_lt}
use Rattle.refusal.specs.Firsts.{at_row, or_else}
use Rattle.refusal.specs.declared.Layer.TheVariants.{DocumentTables}
use Rattle.refusal.specs.declared.Reason.TheVariants as reason
use Rattle.refusal.specs.declared.Refusal.{Refusal}
use Rattle.refusal.specs.Layers.{refused}
use Rattle.layout.specs.declared.row.RowFault.{RowFault}
use Rattle.layout.specs.declared.row.RowFault.TheVariants.{NameMissing, Broken}
use Rattle.layout.specs.declared.row.RowView.{RowView}
use Rattle.layout.specs.declared.row.Misfit.{Misfit}
use Rattle.layout.specs.Places.{first_misfit, row_reason}
use Rattle.document.specs.declared.rows.DefinitionRow.{DefinitionRow}
use Rattle.document.specs.declared.rows.SelectionRow.{SelectionRow}
use Rattle.document.specs.declared.fault.DocumentFault.{DocumentFault}
use Rattle.document.specs.declared.fault.DocumentFault.TheVariants.{TooManyDefinitions, TooManyRows, NoDefinition, InDefinitions, InRows}
use Rattle.document.specs.Rows.{head_of, head_unnamed, head_broken, is_type_system, selection_view}

-- whether a definition's range is out of place: it begins where the one before ended, does not end before that nor
-- behind the rows, the last one ends with the rows, and the type system has an empty range
abbrev pub misplaced : DefinitionRow → ℕ → Bool → ℕ → Bool
misplaced d start last rows =
    not (d.first == start)
    || (nat_lt d.end d.first
    || (nat_lt rows d.end
    || ((last && not (d.end == rows))
    || (is_type_system (head_of d) && not (d.first == d.end)))))

-- the fault of a definition, the smaller number first
abbrev pub definition_fault : DefinitionRow → ℕ → Bool → ℕ → Option RowFault
definition_fault d start last rows =
    cond (head_unnamed (head_of d)) (Some NameMissing)
    (cond (head_broken (head_of d) || misplaced d start last rows) (Some Broken) None)

abbrev pub is_nil : {X : Type 0} → List X → Bool
is_nil [] = true
is_nil (x ∷ xs) = false

-- the first fault of the definitions from the one at i on, whose range begins at start
abbrev pub definitions_fault : ℕ → ℕ → ℕ → List DefinitionRow → Option DocumentFault
definitions_fault rows start i [] = None
definitions_fault rows start i (d ∷ ds) =
    at_row InDefinitions i (definition_fault d start (is_nil ds) rows) (definitions_fault rows d.end (i + 1) ds)

abbrev pub in_rows : Option Misfit → Option DocumentFault
in_rows None = None
in_rows (Some m) = Some (InRows m.fault m.row)

-- the first fault of the rows: those of the first definition, then those of the next
abbrev pub rows_fault : List RowView → List DefinitionRow → Option DocumentFault
rows_fault views [] = None
rows_fault views (d ∷ ds) = or_else (in_rows (first_misfit views d.first d.end 32)) (rows_fault views ds)

-- a document holds 256 definitions and 4,096 rows
abbrev pub size_fault : ℕ → ℕ → Option DocumentFault
size_fault definitions rows = cond (nat_lt 256 definitions) (Some TooManyDefinitions) (cond (nat_lt 4096 rows) (Some TooManyRows) None)

-- rows without a definition belong to none
abbrev pub orphan_fault : List DefinitionRow → List SelectionRow → Option DocumentFault
orphan_fault definitions rows = cond (is_nil definitions && not (is_nil rows)) (Some NoDefinition) None

-- definitions in order, then rows in order
abbrev pub layout_fault : List DefinitionRow → List SelectionRow → Option DocumentFault
layout_fault definitions rows =
    or_else (orphan_fault definitions rows)
    (or_else (definitions_fault (length rows) 0 0 definitions) (rows_fault (map selection_view rows) definitions))

-- sizes first
abbrev pub document_fault : List DefinitionRow → List SelectionRow → Option DocumentFault
document_fault definitions rows = or_else (size_fault (length definitions) (length rows)) (layout_fault definitions rows)

-- the fault that an answer tells, if it tells one
abbrev pub told_fault : {X : Type 0} → Result X DocumentFault → Option DocumentFault
told_fault (Ok x) = None
told_fault (Err fault) = Some fault

-- the faults as refusals: all of them are faults of the document tables
abbrev pub document_refusal : DocumentFault → Refusal
document_refusal TooManyDefinitions = refused reason.TooManyDefinitions DocumentTables 0
document_refusal TooManyRows = refused reason.TooManyRows DocumentTables 0
document_refusal NoDefinition = refused reason.Broken DocumentTables 0
document_refusal (InDefinitions fault row) = refused (row_reason fault) DocumentTables row
document_refusal (InRows fault row) = refused (row_reason fault) DocumentTables row

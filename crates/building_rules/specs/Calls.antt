-- Documents that are handed in one call after the other, and what a history of calls comes to.
use Rattle.std.specs.Prelude.{◌≡◌, Bool, cond, List, [], ◌∷◌, ◌++◌}
use Rattle.layout.specs.Shapes.{forest_in}
use Rattle.document.specs.declared.rows.DefinitionRow.{DefinitionRow}
use Rattle.document.specs.declared.rows.SelectionRow.{SelectionRow}
use Rattle.document.specs.Rows.{selections, head_of}
use Rattle.document.specs.Document.{Definition, IsDocument}
use Rattle.schema.specs.Meaning.{Meaning}
use Rattle.selection_rules.specs.Errors.{Error}
use Rattle.building_rules.specs.Definitions.{Accepted, accepted_from, Kept, errors_in, kept_in}

-- one call: the two tables that are handed in, whether strict, and whether the call was refused
pub record Call : Type 0 where
  pub definitions : List DefinitionRow
  pub rows : List SelectionRow
  pub strict : Bool
  pub refused : Bool

-- the definition of a row: the forest of its range
abbrev pub definition_in : DefinitionRow → List SelectionRow → Definition
definition_in d rows = record { head = head_of d; selected = forest_in selections rows d.first d.end }

-- the document that two tables hold
abbrev pub document_in : List DefinitionRow → List SelectionRow → List Definition
document_in [] rows = []
document_in (d ∷ ds) rows = definition_in d rows ∷ document_in ds rows

-- the definitions that a call hands in: none if it was refused
abbrev pub accepted_of : Call → List Accepted
accepted_of c = cond c.refused [] (accepted_from c.strict (document_in c.definitions c.rows))

-- the accepted definitions of a history of calls, the oldest first
abbrev pub accepted : List Call → List Accepted
accepted [] = []
accepted (c ∷ h) = accepted_of c ++ accepted h

-- what is kept after a history, and the errors that are listed
abbrev pub kept : Meaning → List Call → List Kept
kept m h = kept_in m (accepted h)

abbrev pub listed_in : Meaning → List Call → List Error
listed_in m h = errors_in m (accepted h)

-- two tables that are the layout of a document hold that document
abbrev pub DocumentsAreRead : Type 0
DocumentsAreRead =
    (definitions : List DefinitionRow) (rows : List SelectionRow) (document : List Definition) → IsDocument definitions rows document
    → document_in definitions rows ≡ document

-- one call more adds its definitions behind the others
abbrev pub HistoriesGrow : Type 0
HistoriesGrow = (h : List Call) (c : Call) → accepted (h ++ c ∷ []) ≡ accepted h ++ accepted_of c

-- A document: a list of definitions, each with a forest of selections; and how it is laid out in two tables.
use Rattle.std.specs.Prelude.{◌≡◌, ℕ, ◌+◌, ◌≤◌, true, false, List, [], ◌∷◌, ◌++◌, length}
use Rattle.std.specs.List.{AllByRecursion}
use Rattle.layout.specs.Forest.{Forest, none, size, depth, flatten, Each}
use Rattle.layout.specs.Shapes.{Keeps}
use Rattle.document.specs.declared.rows.DefinitionRow.{DefinitionRow}
use Rattle.document.specs.declared.rows.SelectionRow.{SelectionRow}
use Rattle.document.specs.Rows.{Selection, Head, selection_rules, selection_row, definition_row, head_unnamed, head_broken, is_type_system}

pub record Definition : Type 0 where
  pub head : Head
  pub selected : Forest Selection

-- nothing at all: what stands past the end of a document
abbrev pub no_definition : Definition
no_definition =
    record {
      head = record { kind = 0; operation_type = 0; name = 0; condition = 0; variables = 0; directives = 0; location = 0; name_location = 0; condition_location = 0 };
      selected = none;
    }

-- the definition rows of a document whose selections begin at s: the ranges follow one another
abbrev pub definition_rows : ℕ → List Definition → List DefinitionRow
definition_rows s [] = []
definition_rows s (d ∷ ds) = definition_row d.head s (s + size d.selected) ∷ definition_rows (s + size d.selected) ds

-- its selection rows
abbrev pub selection_rows : ℕ → List Definition → List SelectionRow
selection_rows s [] = []
selection_rows s (d ∷ ds) = flatten selection_row s d.selected ++ selection_rows (s + size d.selected) ds

-- a definition keeps the rules: those of its head and of each selection, nothing is selected in the type system, and at
-- most 32 selections stand one beneath the other
pub record KeepsRules (d : Definition) : Type 0 where
  pub named : head_unnamed d.head ≡ false
  pub whole : head_broken d.head ≡ false
  pub bare : is_type_system d.head ≡ true → size d.selected ≡ 0
  pub selections : Each (Keeps selection_rules) d.selected
  pub shallow : depth d.selected ≤ 32

-- the tables are the layout of the document, which keeps the rules and the limits
pub record IsDocument (definitions : List DefinitionRow) (rows : List SelectionRow) (document : List Definition) : Type 0 where
  pub heads : definitions ≡ definition_rows 0 document
  pub selected : rows ≡ selection_rows 0 document
  pub keep : AllByRecursion KeepsRules document
  pub few : length definitions ≤ 256
  pub short : length rows ≤ 4096

-- the tables are the layout of exactly one document
pub record ReadsAsOne (definitions : List DefinitionRow) (rows : List SelectionRow) : Type 0 where
  pub document : List Definition
  pub is : IsDocument definitions rows document
  pub only : (other : List Definition) → IsDocument definitions rows other → other ≡ document

-- they are the layout of none
abbrev pub ReadsAsNone : List DefinitionRow → List SelectionRow → Type 0
ReadsAsNone definitions rows = (document : List Definition) → IsDocument definitions rows document → ⊥

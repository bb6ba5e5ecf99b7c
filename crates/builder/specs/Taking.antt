-- What taking in a definition, or all definitions of a document, asks of the tables.
use Rattle.std.specs.Prelude.{◌≡◌, ◌≤◌, Bool, false, List, [], ◌∷◌}
use Rattle.layout.specs.Forest.{Forest, depth}
use Rattle.document.specs.declared.rows.DefinitionRow.{DefinitionRow}
use Rattle.document.specs.declared.rows.SelectionRow.{SelectionRow}
use Rattle.document.specs.declared.handed.sets.SelectionSet.{SelectionSet}
use Rattle.document.specs.Rows.{Selection, Head, head_broken}
use Rattle.document.specs.Document.{Definition, IsDocument}
use Rattle.document.specs.Sets.{Holds}
use Rattle.building_rules.specs.Definitions.{Accepted, accepted_from}
use Rattle.building_rules.specs.Bounds.{needs_for}
use Rattle.builder.specs.Holding.{Held}
use Rattle.builder.specs.Storing.{Indexed}
use Rattle.builder.specs.Space.{Space}

-- a definition that is handed in with its selections
abbrev pub handed_in : Head → Forest Selection → Bool → Accepted
handed_in head selected strict = record { head = head; selected = selected; strict = strict }

-- the set holds the definition's selections, and there is space for what it can need
pub record Ready (rows : List SelectionRow) (set : SelectionSet) (d : Accepted) (h : Held) : Type 0 where
  pub whole : head_broken d.head ≡ false
  pub holds : Holds rows set d.selected
  pub shallow : depth d.selected ≤ 32
  pub space : Space h (needs_for (d ∷ []))
  pub operations : Indexed h.operations
  pub fragments : Indexed h.fragments

-- the tables are a document, and there is space for what it can need
pub record AllReady (definitions : List DefinitionRow) (rows : List SelectionRow) (strict : Bool) (document : List Definition) (h : Held) : Type 0 where
  pub is : IsDocument definitions rows document
  pub space : Space h (needs_for (accepted_from strict document))
  pub operations : Indexed h.operations
  pub fragments : Indexed h.fragments

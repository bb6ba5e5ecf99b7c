-- A query as it is handed in, and what it comes to; and that it stands so by the rules of building.
use Rattle.std.specs.Prelude.{◌≡◌, ℕ, Bool, List, [], ◌∷◌, None, Some, Option}
use Rattle.document.specs.declared.rows.DefinitionRow.{DefinitionRow}
use Rattle.document.specs.declared.rows.SelectionRow.{SelectionRow}
use Rattle.document.specs.Sets.{no_row, no_definition_row}
use Rattle.document.specs.Verdict.{document_fault}
use Rattle.schema.specs.declared.answers.OperationType.{OperationType}
use Rattle.schema.specs.declared.answers.OperationType.TheVariants as operation
use Rattle.schema.specs.Numbers.{operation_number}
use Rattle.schema.specs.Meaning.{Meaning}
use Rattle.selection_rules.specs.declared.error.ExecutableDefinitionName.TheVariants.{AnonymousOperation}
use Rattle.selection_rules.specs.declared.stored.StoredRow.{StoredRow}
use Rattle.selection_rules.specs.Errors.{Path, Error}
use Rattle.building_rules.specs.Definitions.{Accepted, accepted_from, errors_in, kept_in}
use Rattle.building_rules.specs.Calls.{document_in}
use Rattle.stored_tables.specs.declared.definition.StoredDefinition.{StoredDefinition}
use Rattle.stored_tables.specs.declared.stored.StoredDocument.{StoredDocument}
use Rattle.stored_tables.specs.Layout.{operations_of, fragments_of, anonymous_of, rows_of}
use Rattle.walking.specs.declared.turn.Scope.TheVariants.{Deep}
use Rattle.walking.specs.Walk.{Listing}

-- the two tables that are handed in, and whether strict; and what they come to: the errors, in order; the anonymous
-- operation that is stored, the named ones, the fragments and the selections; and, of each operation, the anonymous one before
-- the others, the places of the fields that a walk comes upon
pub record Query : Type 0 where
  pub definitions : List DefinitionRow
  pub rows : List SelectionRow
  pub strict : Bool
  pub errors : List Error
  pub anonymous : Option StoredDefinition
  pub operations : List StoredDefinition
  pub fragments : List StoredDefinition
  pub selections : List StoredRow
  pub walks : List (List ℕ)

-- its definitions, as they are accepted
abbrev pub accepted_of : Query → List Accepted
accepted_of q = accepted_from q.strict (document_in q.definitions q.rows)

-- tables that hold what the query comes to
pub record Holds (q : Query) (d : StoredDocument) : Type 0 where
  pub anonymous : d.anonymous ≡ q.anonymous
  pub operations : d.operations.now ≡ q.operations
  pub fragments : d.fragments.now ≡ q.fragments
  pub selections : d.rows.now ≡ q.selections

-- the operations that are stored, the anonymous one before the others
abbrev pub walked_from : Option StoredDefinition → List StoredDefinition → List StoredDefinition
walked_from None named = named
walked_from (Some s) named = s ∷ named

-- each operation is walked from, and there the walk comes upon the fields at its places
abbrev pub EachWalked : StoredDocument → List StoredDefinition → List (List ℕ) → Type 0
EachWalked d [] [] = Unit {0}
EachWalked d [] (places ∷ others) = ⊥
EachWalked d (s ∷ ss) [] = ⊥
EachWalked d (s ∷ ss) (places ∷ others) = Listing d Deep s places × EachWalked d ss others

abbrev pub Walked : Query → Type 0
Walked q = (d : StoredDocument) → Holds q d → EachWalked d (walked_from q.anonymous q.operations) q.walks

-- over this schema the query comes to what it tells
pub record Stands (m : Meaning) (q : Query) : Type 0 where
  pub document : document_fault q.definitions q.rows ≡ None
  pub errors : errors_in m (accepted_of q) ≡ q.errors
  pub anonymous : anonymous_of None 0 (kept_in m (accepted_of q)) ≡ q.anonymous
  pub operations : operations_of 0 (kept_in m (accepted_of q)) ≡ q.operations
  pub fragments : fragments_of 0 (kept_in m (accepted_of q)) ≡ q.fragments
  pub selections : rows_of 0 (kept_in m (accepted_of q)) ≡ q.selections
  pub walks : Walked q

-- Rows, handed in or stored: of a definition the names, the locations, and the range of its selections; of a selection the
-- names, the locations, and the end of what stands beneath it

abbrev pub anonymous_query : (at first end : ℕ) → DefinitionRow
anonymous_query at first end = record no_definition_row { kind = 1; location = at; first = first; end = end }

abbrev pub named : OperationType → (name at name-at first end : ℕ) → DefinitionRow
named type name at name-at first end =
    record no_definition_row { kind = 1; operation_type = operation_number type; name = name; location = at; name_location = name-at; first = first; end = end }

abbrev pub fragment : (name condition at name-at condition-at first end : ℕ) → DefinitionRow
fragment name condition at name-at condition-at first end =
    record no_definition_row { kind = 2; name = name; condition = condition; location = at; name_location = name-at; condition_location = condition-at; first = first; end = end }

abbrev pub field : (name at end : ℕ) → SelectionRow
field name at end = record no_row { kind = 1; name = name; location = at; name_location = at; end = end }

abbrev pub spread : (name at end : ℕ) → SelectionRow
spread name at end = record no_row { kind = 2; name = name; location = at; end = end }

abbrev pub inline : (condition at condition-at end : ℕ) → SelectionRow
inline condition at condition-at end =
    record no_row { kind = 3; condition = condition; location = at; condition_location = condition-at; end = end }

-- a definition as it is stored, with the type around its selections; its range is that of its stored selections
abbrev pub stored_in : ℕ → DefinitionRow → StoredDefinition
stored_in around row = record { row = row; set_type = around }

-- a selection as it is stored: a field with the place of its definition and its inner type; a spread; an inline fragment
-- with the type of what stands beneath it
abbrev pub stored_field : (place inner : ℕ) → SelectionRow → StoredRow
stored_field place inner row = record { selection = row; place = place; set_type = inner }

abbrev pub stored_spread : SelectionRow → StoredRow
stored_spread row = record { selection = row; place = 0; set_type = 0 }

abbrev pub stored_inline : ℕ → SelectionRow → StoredRow
stored_inline inner row = record { selection = row; place = 0; set_type = inner }

-- the path from the anonymous query over these fields
abbrev pub from_query : List ℕ → Path
from_query keys = record { root = AnonymousOperation operation.Query; keys = keys }

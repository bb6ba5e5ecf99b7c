-- Which fields a stored definition reaches, read in tables.
use Rattle.std.specs.Prelude.{◌≡◌, ℕ, ◌≤◌, ◌<◌, true, List, [], ◌∷◌, length, slice_index_or}
use Rattle.document.specs.Rows.{selection_of, is_field, is_spread}
use Rattle.selection_rules.specs.declared.stored.StoredRow.{StoredRow}
use Rattle.stored_tables.specs.declared.definition.StoredDefinition.{StoredDefinition}
use Rattle.stored_tables.specs.declared.stored.StoredDocument.{StoredDocument}
use Rattle.stored_tables.specs.Verdict.{no_stored_row, definition_at}

abbrev pub row_at : StoredDocument → ℕ → StoredRow
row_at d p = slice_index_or d.rows.now p no_stored_row

abbrev pub fragment_at : StoredDocument → ℕ → StoredDefinition
fragment_at d f = definition_at d.fragments.now f

-- the row at the place p stands anywhere beneath the definition
abbrev pub Beneath : StoredDefinition → ℕ → Type 0
Beneath s p = (s.row.first ≤ p) × (p < s.row.end)

-- the row at the place p is a field
abbrev pub Field : StoredDocument → ℕ → Type 0
Field d p = is_field (selection_of (row_at d p).selection) ≡ true

-- the row at the place p is a spread that names the fragment f
pub record Names (d : StoredDocument) (p f : ℕ) : Type 0 where
  pub spread : is_spread (selection_of (row_at d p).selection) ≡ true
  pub there : f < length d.fragments.now
  pub named : (fragment_at d f).row.name ≡ (row_at d p).selection.name

-- a chain of spreads: the first stands beneath the definition, each further one beneath the fragment named before
abbrev pub Chain : StoredDocument → StoredDefinition → List ℕ → Type 0
Chain d s [] = Unit {0}
Chain d s (f ∷ fs) = ((p : ℕ) × Beneath s p × Names d p f) × Chain d (fragment_at d f) fs

-- the definition in which a chain ends
abbrev pub last_of : StoredDocument → StoredDefinition → List ℕ → StoredDefinition
last_of d s [] = s
last_of d s (f ∷ fs) = last_of d (fragment_at d f) fs

-- the definition reaches the field at the place p
pub record Reaches (d : StoredDocument) (s : StoredDefinition) (p : ℕ) : Type 0 where
  pub chain : List ℕ
  pub holds : Chain d s chain
  pub beneath : Beneath (last_of d s chain) p
  pub field : Field d p

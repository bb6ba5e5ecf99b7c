-- Which kept fields an operation reaches. A kept row's place is its number, from 0, among all rows kept.
use Rattle.std.specs.Prelude.{◌≡◌, ℕ, suc, ◌≤◌, ◌<◌, true, List, [], ◌∷◌, ◌++◌, length, take, slice_index_or}
use Rattle.layout.specs.Forest.{Forest, none, row}
use Rattle.document.specs.Rows.{is_field, is_spread, head_of}
use Rattle.document.specs.Sets.{no_definition_row}
use Rattle.selection_rules.specs.Stored.{Stored, stored_of}
use Rattle.building_rules.specs.Definitions.{Kept, role_of}
use Rattle.building_rules.specs.Rules.{fragment_role}
use Rattle.building_rules.specs.Bounds.{rows_kept}
use Rattle.stored_tables.specs.Verdict.{no_stored_row}

-- the rows of a forest, each before those beneath it
abbrev pub in_order : {A : Type 0} → Forest A → List A
in_order none = []
in_order (row a below after) = a ∷ (in_order below ++ in_order after)

-- all rows that are kept, definition by definition
abbrev pub kept_rows : List Kept → List Stored
kept_rows [] = []
kept_rows (k ∷ ks) = in_order k.rows ++ kept_rows ks

-- what stands past the last
abbrev pub no_stored : Stored
no_stored = stored_of no_stored_row

abbrev pub no_kept : Kept
no_kept = record { head = head_of no_definition_row; set_type = 0; rows = none }

abbrev pub row_at : List Kept → ℕ → Stored
row_at ks p = slice_index_or (kept_rows ks) p no_stored

abbrev pub kept_at : List Kept → ℕ → Kept
kept_at ks d = slice_index_or ks d no_kept

-- the row at the place p stands anywhere beneath the kept definition with the number d, from 0
pub record Beneath (ks : List Kept) (d p : ℕ) : Type 0 where
  pub there : d < length ks
  pub low : rows_kept (take d ks) ≤ p
  pub high : p < rows_kept (take (suc d) ks)

-- the row at the place p is a field
abbrev pub Field : List Kept → ℕ → Type 0
Field ks p = is_field (row_at ks p).selection ≡ true

-- the row at the place p is a spread that names the kept fragment with the number f
pub record Names (ks : List Kept) (p f : ℕ) : Type 0 where
  pub spread : is_spread (row_at ks p).selection ≡ true
  pub there : f < length ks
  pub fragment : fragment_role (role_of (kept_at ks f).head) ≡ true
  pub named : (kept_at ks f).head.name ≡ (row_at ks p).selection.name

-- a chain of spreads: the first stands beneath the definition d, each further one beneath the fragment named before
abbrev pub Chain : List Kept → ℕ → List ℕ → Type 0
Chain ks d [] = Unit {0}
Chain ks d (f ∷ fs) = ((p : ℕ) × Beneath ks d p × Names ks p f) × Chain ks f fs

-- the definition in which a chain ends
abbrev pub last_of : ℕ → List ℕ → ℕ
last_of d [] = d
last_of d (f ∷ fs) = last_of f fs

-- the kept definition d reaches the field at the place p
pub record Reaches (ks : List Kept) (d p : ℕ) : Type 0 where
  pub chain : List ℕ
  pub holds : Chain ks d chain
  pub beneath : Beneath ks (last_of d chain) p
  pub field : Field ks p

-- What a walk reads in tables of stored definitions and rows, and what it can rely on where they have no fault.
use Rattle.std.specs.Prelude.{◌≡◌, ℕ, ◌≤◌, ◌<◌, length}
use Rattle.finished_rules.specs.ReachesInTables.{row_at, fragment_at, Beneath}
use Rattle.stored_tables.specs.declared.definition.StoredDefinition.{StoredDefinition}
use Rattle.stored_tables.specs.declared.stored.StoredDocument.{StoredDocument}

-- no two fragments have a name or a row in common, each stands within the rows, and each row ends behind its place
pub record InShape (d : StoredDocument) : Type 0 where
  pub names : (f g : ℕ) → f < length d.fragments.now → g < length d.fragments.now → (fragment_at d f).row.name ≡ (fragment_at d g).row.name → f ≡ g
  pub apart : (f g p : ℕ) → f < length d.fragments.now → g < length d.fragments.now → Beneath (fragment_at d f) p → Beneath (fragment_at d g) p → f ≡ g
  pub within : (f : ℕ) → f < length d.fragments.now → (fragment_at d f).row.end ≤ length d.rows.now
  pub ahead : (p : ℕ) → p < length d.rows.now → p < (row_at d p).selection.end

-- the definition stands within the rows, and has none in common with a fragment
pub record Walkable (d : StoredDocument) (s : StoredDefinition) : Type 0 where
  pub shape : InShape d
  pub within : s.row.end ≤ length d.rows.now
  pub alone : (f p : ℕ) → f < length d.fragments.now → Beneath s p → Beneath (fragment_at d f) p → ⊥

-- What the check keeps in mind of the ranges of a table: they follow one another. And how two searches for a place are one.
use Rattle.std.specs.Prelude.{ℕ, ◌≤◌, cond, List, [], ◌∷◌, Some, None, Option, min, nat_le, nat_lt}
use Rattle.stored_tables.specs.declared.definition.StoredDefinition.{StoredDefinition}

-- a range that lies within so many rows
pub record Placed (rows : ℕ) (d : StoredDefinition) : Type 0 where
  pub ordered : d.row.first ≤ d.row.end
  pub within : d.row.end ≤ rows

-- ranges that follow one another from `start` on, within so many rows
abbrev pub InOrder : ℕ → ℕ → List StoredDefinition → Type 0
InOrder rows start [] = Unit {0}
InOrder rows start (d ∷ ds) = (start ≤ d.row.first) × Placed rows d × InOrder rows d.row.end ds

-- the definitions from the first on whose range ends behind the row
abbrev pub from_row : ℕ → List StoredDefinition → List StoredDefinition
from_row row [] = []
from_row row (d ∷ ds) = cond (nat_le d.row.end row) (from_row row ds) (d ∷ ds)

-- the first of so many rows behind a row from which on a range begins or has ended; their number, where there is none
abbrev pub bound_behind : ℕ → ℕ → StoredDefinition → ℕ
bound_behind row rows d = cond (nat_lt row d.row.first) (min d.row.first rows) (cond (nat_lt row d.row.end) (min d.row.end rows) rows)

-- the same for the first of definitions, where there is one
abbrev pub first_bound : ℕ → ℕ → List StoredDefinition → ℕ
first_bound row rows [] = rows
first_bound row rows (d ∷ ds) = bound_behind row rows d

-- the earlier of two places, where there are two
abbrev pub earlier : Option ℕ → Option ℕ → Option ℕ
earlier None b = b
earlier (Some a) None = Some a
earlier (Some a) (Some b) = Some (min a b)

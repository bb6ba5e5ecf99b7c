-- The first fault among rows: each row has its own fault or none, and the first one is told with its row.
use Rattle.std.specs.Prelude.{ℕ, zero, suc, ◌+◌, Some, None, Ok, Err, Option, Result}

-- the fault of the row i, where it has one, told with the row's place plus 1; else what the rows after it come to
abbrev pub at_row : {F G : Type 0} → (F → ℕ → G) → ℕ → Option F → Option G → Option G
at_row told i None rest = rest
at_row told i (Some fault) rest = Some (told fault (i + 1))

-- the first fault among so many rows from the row i on
abbrev pub first_fault : {F G : Type 0} → (F → ℕ → G) → (ℕ → Option F) → ℕ → ℕ → Option G
first_fault told fault i zero = None
first_fault told fault i (suc left) = at_row told i (fault i) (first_fault told fault (i + 1) left)

-- the first of two that is a fault
abbrev pub or_else : {G : Type 0} → Option G → Option G → Option G
or_else None later = later
or_else (Some fault) later = Some fault

-- no fault, or the first one, as the answer of a check
abbrev pub verdict_of : {G : Type 0} → Option G → Result Unit G
verdict_of None = Ok tt
verdict_of (Some fault) = Err fault

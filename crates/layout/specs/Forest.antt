-- Forests, and their rows: each row is followed by the rows beneath it, and its end is the place after them.
use Rattle.std.specs.Prelude.{ℕ, suc, ◌+◌, max, List, [], ◌∷◌, ◌++◌}

-- first row, what stands beneath it, and the rows after it on the same level
pub data Forest (A : Type 0) : Type 0 where
  none : Forest A
  row : A → Forest A → Forest A → Forest A

-- how many rows there are
abbrev pub size : {A : Type 0} → Forest A → ℕ
size none = 0
size (row a below after) = suc (size below + size after)

-- how many rows stand one beneath the other, at most
abbrev pub depth : {A : Type 0} → Forest A → ℕ
depth none = 0
depth (row a below after) = max (suc (depth below)) (depth after)

-- the rows of a forest whose first row stands at s; `close` gives a row its end
abbrev pub flatten : {A R : Type 0} → (A → ℕ → R) → ℕ → Forest A → List R
flatten close s none = []
flatten close s (row a below after) =
    close a (suc s + size below) ∷ (flatten close (suc s) below ++ flatten close (suc s + size below) after)

-- what holds of each row, with the forest beneath it
abbrev pub Each : {A : Type 0} → (A → Forest A → Type 0) → Forest A → Type 0
Each P none = Unit {0}
Each P (row a below after) = P a below × Each P below × Each P after

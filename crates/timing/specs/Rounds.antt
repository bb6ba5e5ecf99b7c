-- What going round after round comes to.
use Rattle.std.specs.Prelude.{◌≡◌, ℕ, zero, suc}

-- so many rounds lead from the first number to the last: each goes on from what the one before it answered
abbrev pub After : (ℕ → ℕ → Type 0) → ℕ → ℕ → ℕ → Type 0
After answers zero first last = first ≡ last
After answers (suc n) first last = (next : ℕ) × answers first next × After answers n next last

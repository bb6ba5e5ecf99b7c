-- What the equality and the hash of keys have to keep, so that an index can serve them.
use Rattle.std.specs.Prelude.{◌≡◌, ℕ, Bool, true}

-- the equality is an equivalence, and equal keys hash equal
pub record Lawful {K : Type 0} (equal : K → K → Bool) (digest : K → ℕ) : Type 0 where
  pub itself : (x : K) → equal x x ≡ true
  pub back : (x y : K) → equal x y ≡ true → equal y x ≡ true
  pub through : (x y z : K) → equal x y ≡ true → equal y z ≡ true → equal x z ≡ true
  pub hashes : (x y : K) → equal x y ≡ true → digest x ≡ digest y

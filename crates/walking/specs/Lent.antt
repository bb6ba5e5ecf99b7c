-- What is lent to a walk: a list, or none, and a stack to work on.
use Rattle.std.proofs.Common.{inl, inr}
use Rattle.std.specs.Prelude.{◌≡◌, ◌⊎◌, ℕ, List, ◌++◌, length, take, drop, Some, None, Option, option_map}
use Rattle.std.specs.Borrow.{MutBor}

-- how long the list is, if one is lent
abbrev pub lent_long : Option (MutBor (List ℕ)) → Option ℕ
lent_long list = option_map (λ x. length x.now) list

-- what the list held and what it holds are so related, if one is lent
abbrev pub Lent : Option (MutBor (List ℕ)) → Unit {0} ⊎ ((MutBor (List ℕ) × Unit {0}) ⊎ ⊥) → (List ℕ → List ℕ → Type 0) → Type 0
Lent None y P = Unit {0}
Lent (Some x) (inl y) P = ⊥
Lent (Some x) (inr (inl y)) P = P x.now y.0.now
Lent (Some x) (inr (inr y)) P = ⊥

-- a list over whose front places are written, as far as they fit
abbrev pub written_over : List ℕ → List ℕ → List ℕ
written_over list places = take (length list) places ++ drop (length places) list

-- The working contents: what the first n places hold afterwards is left open, the others hold what they held.
abbrev pub WorkedWithin : {A : Type 0} → ℕ → List A → List A → Type 0
WorkedWithin n old new = drop n new ≡ drop n old

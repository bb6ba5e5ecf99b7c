-- A probe that goes round has seen each slot, so a sound index, which has an empty one, stops it before.
use Rattle.std.proofs.Common.{◌≡◌, ℕ, zero, suc, ◌+◌, ◌-◌, ◌*◌, ◌/◌, ◌%◌, ◌<◌, ◌≤◌, Bool, cond, ltb, List, [], ◌∷◌, length, get_or, replicate, sym, refl, ap, ◌∙◌, subst, mod-lt, mod-eq_of_lt, arith, pow_pos}
use native.Mathlib.Nat.{min-le_left, add-mod-mod, mod-add-mod, add-mod_right}
use Rattle.std.proofs.lemmas.List.Sums.{sum_by-cons}
use Rattle.std.proofs.lemmas.List.{length-replicate}
use Rattle.std.proofs.lemmas.List.Folds.{sum_by-replicate}
use Rattle.std.proofs.lemmas.Bool.{lt-ltb}
use Rattle.std.specs.Int.{IsPowerOfTwo}
use Rattle.ordered_index.specs.Slots.{used}
use Rattle.ordered_index.specs.Sound.{Sound}
use Rattle.ordered_index.proofs.Ways.{AllMissed}

-- each slot comes up
pub comes_up : (n h s : ℕ) → s < n → (d : ℕ) × (d < n) × ((h + d) % n ≡ s)
comes_up n h s low =
    let some : 0 < n = omega arith in
    let far = s + (n - h % n) in
    let short : h % n < n = mod-lt h some in
    let sums : h % n + far ≡ s + n = omega arith in (
      far % n,
      mod-lt far some,
      add-mod-mod h far n ∙ sym (mod-add-mod h n far) ∙ ap (λ k. k % n) sums ∙ add-mod_right s n ∙ mod-eq_of_lt low,
    )

pub used_all : (xs : List ℕ) → ((i : ℕ) → i < length xs → 0 < get_or xs i 0) → used xs ≡ length xs
used_all [] full = refl
used_all (x ∷ xs) full =
    let f : ℕ → ℕ = λ y. cond (ltb 0 y) 1 0 in
    let split = sum_by-cons f x xs in
    let one : f x ≡ 1 = ap (λ b. cond b 1 0) (lt-ltb 0 x (full 0 (omega arith))) in
    let rest = used_all xs (λ i low. full (suc i) (omega arith)) in
    omega arith

-- a sound index has an empty slot
pub sparse : {K : Type 0} (equal : K → K → Bool) (digest : K → ℕ) (keys : List K) (slots : List ℕ) → Sound equal digest keys slots → length keys < length slots
sparse equal digest keys slots sound =
    let some = pow_pos sound.power.0 in
    let size = sound.power.1 in
    omega (arith, sound.few, min-le_left (length slots / 2) 4294967295)

module _ {K : Type 0} (equal : K → K → Bool) (digest : K → ℕ) (keys : List K) (slots : List ℕ) (q : K) (h : ℕ) where
  pub no_round : Sound equal digest keys slots → AllMissed equal keys slots q h (length slots) → ⊥
  no_round sound missed =
      let all : used slots ≡ length slots = used_all slots (λ i low.
      let up = comes_up (length slots) h i low in
      subst (λ (a : ℕ). 0 < get_or slots a 0) up.2 (missed up.0 up.1).taken) in
      omega (arith, sparse equal digest keys slots sound, sound.filled)

-- an empty slot holds no place
nothing : (size k : ℕ) → get_or (replicate size 0) k 0 ≤ 0
nothing zero k = omega arith
nothing (suc size) zero = omega arith
nothing (suc size) (suc k) = nothing size k

-- empty slots are an index of no key
pub sound_none : {K : Type 0} (equal : K → K → Bool) (digest : K → ℕ) (size : ℕ) → IsPowerOfTwo size → Sound equal digest [] (replicate size 0)
sound_none equal digest size power = record {
  power = (power.0, length-replicate size 0 ∙ power.1);
  few = omega arith;
  ranged = nothing size;
  filled = let none : size * 0 ≡ 0 = omega arith in sum_by-replicate (λ y. cond (ltb 0 y) 1 0) size 0 ∙ none;
  reached = λ n x inside. absurd (omega arith);
  apart = λ i j x low inside. absurd (omega arith);
}

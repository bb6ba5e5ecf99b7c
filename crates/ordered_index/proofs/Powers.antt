-- A number with one digit set is a power of two.
use Rattle.std.proofs.Common.{◌≡◌, ℕ, suc, ◌+◌, ◌*◌, ◌/◌, ◌%◌, ◌^◌, refl, ap, ◌∙◌, ⊎_elim, pow-suc, arith, pow_pos}
use lib.Arith.{bin_ind}
use lib.Count.{ones, ones_step, ones_cat}
use Rattle.std.proofs.lemmas.Bool.{cases_eq}
use Rattle.std.specs.Int.{IsPowerOfTwo}

none_set : (n : ℕ) → ones n ≡ 0 → n ≡ 0
none_set = bin_ind (λ n. ones n ≡ 0 → n ≡ 0) (λ _. refl)
    (λ n half is. let s = ones_step n in let z : n / 2 ≡ 0 = half (omega arith) in omega arith)

pub one_set : (n : ℕ) → ones n ≡ 1 → IsPowerOfTwo n
unfolding ones
one_set = bin_ind (λ n. ones n ≡ 1 → IsPowerOfTwo n) (λ is. absurd (omega arith))
    (λ n half is.
    let s = ones_step n in
    ⊎_elim
    (λ (even : n % 2 ≡ 0).
    let p = half (omega arith) in
    (suc p.0, let e = p.1 in let d = pow-suc 2 p.0 in omega arith))
    (λ (odd : n % 2 ≡ 0 → ⊥).
    let z : n / 2 ≡ 0 = none_set (n / 2) (omega arith) in
    (0, omega arith))
    (cases_eq (n % 2) 0))

pub power_set : (n : ℕ) → IsPowerOfTwo n → ones n ≡ 1
unfolding ones
power_set n p =
    let plain : n ≡ 1 * 2 ^ p.0 + 0 = omega (arith, p.1) in
    ap ones plain ∙ ones_cat p.0 1 0 (pow_pos p.0)

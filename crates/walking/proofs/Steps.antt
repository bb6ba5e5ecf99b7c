-- What the steps of a stack and the marks come to, after one of them is written.
use Rattle.std.proofs.Common.{◌≡◌, ℕ, zero, suc, ◌+◌, ◌<◌, ◌≤◌, ◌⊎◌, inl, inr, List, length, get_or, set, sym, refl, ap, subst, eq-eqb, get_or-set_same, get_or-set_other, arith}
use Rattle.std.proofs.lemmas.Bool.{cases_eq}
use Rattle.stored_tables.specs.declared.stored.StoredDocument.{StoredDocument}
use Rattle.walking.specs.declared.turn.Scope.{Scope}
use Rattle.walking.specs.declared.turn.WalkStep.{WalkStep}
use Rattle.walking.specs.Walk.{Walk}
use Rattle.walking.specs.Turning.{step_at, Pending, load, tally}

pub step_written : (st : List WalkStep) (k : ℕ) (v : WalkStep) → k < length st → step_at (set st k v) k ≡ v
step_written st k v low = get_or-set_same st k v (record { next = 0; end = 0 }) low

pub step_other : (st : List WalkStep) (j : ℕ) (v : WalkStep) (k : ℕ) → (k ≡ j → ⊥) → step_at (set st j v) k ≡ step_at st k
step_other st j v k other = get_or-set_other st j k v (record { next = 0; end = 0 }) other

pub pending_below : (d : StoredDocument) (sc : Scope) (st : List WalkStep) (j : ℕ) (v : WalkStep) (k : ℕ) → k ≤ j → (m ys : List ℕ) → Pending d sc (set st j v) k m ys → Pending d sc st k m ys
pending_below d sc st j v zero low m ys p = p
pending_below d sc st j v (suc k) low m ys p =
    let is = step_other st j v k (λ e. omega arith) in
    (p.0, p.1, p.2, subst (λ (s : WalkStep). Walk d sc m s.next s.end p.0 p.1) is p.3, pending_below d sc st j v k (omega arith) p.1 p.2 p.4, p.5)

pub load_below : (st : List WalkStep) (j : ℕ) (v : WalkStep) (k : ℕ) → k ≤ j → load (set st j v) k ≡ load st k
load_below st j v zero low = refl
load_below st j v (suc k) low =
    let rest = load_below st j v k (omega arith) in
    let is = step_other st j v k (λ e. omega arith) in
    rw (is, rest) refl

pub tally_above : (w : ℕ → ℕ) (m : List ℕ) (f n : ℕ) → n ≤ f → tally w (set m f 1) n ≡ tally w m n
tally_above w m f zero low = refl
tally_above w m f (suc n) low =
    let rest = tally_above w m f n (omega arith) in
    let is = get_or-set_other m f n 1 0 (λ e. omega arith) in
    rw (is, rest) refl

-- a fragment that is marked counts no more
pub tally_marked : (w : ℕ → ℕ) (m : List ℕ) (f n : ℕ) → f < n → f < length m → get_or m f 0 ≡ 0 → tally w (set m f 1) n + w f ≡ tally w m n
tally_marked w m f zero low long z = absurd (omega arith)
tally_marked w m f (suc n) low long z = go (λ k. tally_marked w m f n k long z) (cases_eq f n)
  where
    go : (f < n → tally w (set m f 1) n + w f ≡ tally w m n) → (f ≡ n) ⊎ (f ≡ n → ⊥) → tally w (set m f 1) (suc n) + w f ≡ tally w m (suc n)
    go ih (inl same) =
        let r = tally_above w m f n (omega arith) in
        let one : get_or (set m f 1) n 0 ≡ 1 = subst (λ (k : ℕ). get_or (set m f 1) k 0 ≡ 1) same (get_or-set_same m f 1 0 long) in
        let b = eq-eqb (get_or m n 0) 0 (subst (λ (k : ℕ). get_or m k 0 ≡ 0) same z) in
        let is : w f ≡ w n = ap w same in
        rw (one, r, b) (omega arith)
    go ih (inr other) =
        let r = ih (omega arith) in
        let e = get_or-set_other m f n 1 0 (λ e. other (sym e)) in
        rw e (omega arith)

-- A list over whose front places are written, one after the other; and how many places there are.
use Rattle.std.proofs.Common.{◌≡◌, ℕ, ◌+◌, ◌<◌, ◌≤◌, inl, inr, Bool, true, false, eqb, ◌||◌, List, [], ◌∷◌, ◌++◌, length, get_or, set, take, drop, sym, refl, ap, ◌∙◌, append_assoc, length-append, take_all, eqb-true, arith}
use Rattle.std.proofs.lemmas.List.{take-append-le, drop_all, drop_more, set_at}
use Rattle.std.proofs.lemmas.Bool.{false_from_ne_true, false≢true}
use Rattle.std.proofs.lemmas.Map.Steps.{length-le_from_distinct_below}
use Rattle.std.specs.List.{AllByRecursion, IsDistinct, list_any}
use Rattle.walking.specs.Listed.{Among, Distinct}
use Rattle.walking.specs.Lent.{written_over}

pub one_more : (xs ys : List ℕ) (p : ℕ) → length ys < length xs → set (written_over xs ys) (length ys) p ≡ written_over xs (ys ++ p ∷ [])
one_more xs ys p h =
    let a : take (length xs) ys ≡ ys = take_all (length xs) ys (omega arith) in
    let b : take (length xs) (ys ++ p ∷ []) ≡ ys ++ p ∷ [] = take_all (length xs) (ys ++ p ∷ []) (rw length-append (omega arith)) in
    let c : drop (length ys) xs ≡ get_or xs (length ys) 0 ∷ drop (length ys + 1) xs = drop_more xs (length ys) 0 h in
    rw (a, c, b, length-append) (set_at ys _ (drop (length ys + 1) xs) p (length ys) refl ∙ sym (append_assoc ys (p ∷ []) (drop (length ys + 1) xs)))

pub none_more : (xs ys : List ℕ) (p : ℕ) → length xs ≤ length ys → written_over xs ys ≡ written_over xs (ys ++ p ∷ [])
none_more xs ys p h =
    let a : take (length xs) (ys ++ p ∷ []) ≡ take (length xs) ys = take-append-le (length xs) ys (p ∷ []) h in
    let b : drop (length ys) xs ≡ [] = drop_all (length ys) xs h in
    let c : drop (length (ys ++ p ∷ [])) xs ≡ [] = drop_all (length (ys ++ p ∷ [])) xs (rw length-append (omega arith)) in
    rw (a, b, c) refl

-- how many places there are

none_equal : (x : ℕ) (xs : List ℕ) → (Among x xs → ⊥) → AllByRecursion (λ y. eqb x y ≡ false) xs
none_equal x [] other = tt
none_equal x (y ∷ xs) other = (false_from_ne_true (eqb x y) (λ is. other (inl (eqb-true x y is))), none_equal x xs (λ h. other (inr h)))

no_two : (xs : List ℕ) → Distinct xs → IsDistinct eqb xs
unfolding IsDistinct
no_two [] distinct = tt
no_two (x ∷ xs) distinct = (none_equal x xs distinct.0, no_two xs distinct.1)

any_among : (q : ℕ) (xs : List ℕ) → list_any (eqb q) xs ≡ true → Among q xs
any_among q [] is = absurd (false≢true is)
any_among q (x ∷ xs) is = go (any_among q xs) (eqb q x) refl is
  where
    go : (list_any (eqb q) xs ≡ true → Among q xs) → (b : Bool) → eqb q x ≡ b → (b || list_any (eqb q) xs) ≡ true → Among q (x ∷ xs)
    go ih true at h = inl (eqb-true q x at)
    go ih false at h = inr (ih h)

-- places below n, none twice
pub no_more : (n : ℕ) (xs : List ℕ) → Distinct xs → ((p : ℕ) → Among p xs → p < n) → length xs ≤ n
no_more n xs distinct low = length-le_from_distinct_below xs n (no_two xs distinct) (λ q is. low q (any_among q xs is))

-- a list that is long enough takes all places
pub all_written : (xs ys : List ℕ) → length ys ≤ length xs → written_over xs ys ≡ ys ++ drop (length ys) xs
all_written xs ys low = ap (λ (l : List ℕ). l ++ drop (length ys) xs) (take_all (length xs) ys low)

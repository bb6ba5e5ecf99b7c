-- Where a key is located is the place of the first key that equals it.
use Rattle.std.proofs.Common.{◌≡◌, ℕ, zero, suc, ◌+◌, ◌<◌, Bool, true, false, cond, List, [], ◌∷◌, ◌++◌, map, length, get_or, Some, None, Option, sym, refl, ap, ◌∙◌, ⊎_elim, arith}
use Rattle.std.proofs.lemmas.List.{map_more}
use Rattle.std.proofs.lemmas.Bool.{cond-true, cond-false, cases_Bool}
use Rattle.std.specs.List.{position_from}
use Rattle.ordered_index.specs.Sound.{Located, keys_of}

-- no element passes
pub first_none : {X : Type 0} (p : X → Bool) (xs : List X) (k : ℕ) → ((n : ℕ) (d : X) → n < length xs → p (get_or xs n d) ≡ false) → position_from p k xs ≡ None
first_none p [] k none = refl
first_none p (x ∷ xs) k none =
    cond-false _ _ _ (none 0 x (omega arith)) ∙ first_none p xs (k + 1) (λ n d low. none (suc n) d (omega arith))

-- the element at n passes, and none before it
pub first_some : {X : Type 0} (p : X → Bool) (xs : List X) (k n : ℕ) → n < length xs → ((d : X) → p (get_or xs n d) ≡ true)
    → ((m : ℕ) (d : X) → m < n → p (get_or xs m d) ≡ false) → position_from p k xs ≡ Some (k + n)
first_some p [] k n low here before = absurd (omega arith)
first_some p (x ∷ xs) k zero low here before = cond-true _ _ _ (here x) ∙ ap Some (omega arith)
first_some p (x ∷ xs) k (suc n) low here before =
    cond-false _ _ _ (before 0 x (omega arith))
    ∙ first_some p xs (k + 1) n (omega arith) here (λ m d less. before (suc m) d (omega arith))
    ∙ ap Some (omega arith)

-- the first of the images is the image of the first
pub first_map : {X Y : Type 0} (f : X → Y) (p : Y → Bool) (xs : List X) (k : ℕ) → position_from p k (map f xs) ≡ position_from (λ x. p (f x)) k xs
first_map f p [] k = refl
first_map f p (x ∷ xs) k = ap (λ r. cond (p (f x)) (Some k) r) (first_map f p xs (k + 1))

pub located_first : {K : Type 0} (equal : K → K → Bool) (keys : List K) (q : K) (r : Option ℕ) → Located equal keys q r → r ≡ position_from (λ k. equal k q) 0 keys
located_first equal keys q None absent = sym (first_none (λ k. equal k q) keys 0 absent)
located_first equal keys q (Some n) only =
    ap Some (omega arith)
    ∙ sym (first_some (λ k. equal k q) keys 0 n only.stands.inside only.stands.equals
    (λ m d low.
    ⊎_elim
    (λ same. let at = only.only m d (omega (arith, only.stands.inside)) same in absurd (omega arith))
    (λ differs. differs)
    (cases_Bool (equal (get_or keys m d) q))))

-- the same among entries: where their index locates a key is the place of the first entry that has it
pub located_place : {E K : Type 0} (keyed : E → K) (equal : K → K → Bool) (entries : List E) (q : K) (r : Option ℕ)
    → Located equal (map keyed entries) q r → r ≡ position_from (λ e. equal (keyed e) q) 0 entries
located_place keyed equal entries q r here =
    located_first equal (map keyed entries) q r here ∙ first_map keyed (λ k. equal k q) entries 0

-- the keys of one entry more
pub keys_more : {E K : Type 0} (keyed : E → K) (entries : List E) (i : ℕ) (d : E) → i < length entries
    → keys_of keyed i entries ++ keyed (get_or entries i d) ∷ [] ≡ keys_of keyed (i + 1) entries
keys_more keyed entries i d low = sym (map_more keyed entries i d low)

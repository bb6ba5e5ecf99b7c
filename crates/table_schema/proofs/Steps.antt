-- Slots that hold nothing: an index of no key, and as they were when they are emptied again.
use Rattle.std.proofs.Common.{◌≡◌, ℕ, ◌^◌, Bool, true, eqb, List, [], ◌∷◌, length, replicate, sym, refl, ap, ◌∙◌, subst}
use Rattle.std.proofs.lemmas.Bool.{and_parts, eqb-true}
use Rattle.ordered_index.specs.Sound.{Sound}
use Rattle.ordered_index.proofs.Rounds.{sound_none}
use Rattle.table_schema.specs.Verdict.{zeros, empty_index}

-- slots without a key are all 0
pub zeros_all : (slots : List ℕ) → zeros slots ≡ true → slots ≡ replicate (length slots) 0
zeros_all [] all = refl
zeros_all (s ∷ slots) all =
    let both = and_parts (eqb s 0) (zeros slots) all in
    let head : s ≡ 0 = eqb-true s 0 both.0 in
    ap (λ x. x ∷ slots) head ∙ ap (λ xs. 0 ∷ xs) (zeros_all slots both.1)

-- empty slots of a size that is a power of two are an index of nothing
pub fresh : {K : Type 0} (equal : K → K → Bool) (digest : K → ℕ) (slots : List ℕ) (size k : ℕ) → size ≡ 2 ^ k → empty_index size slots ≡ true → Sound equal digest [] slots
fresh equal digest slots size k power all =
    let both = and_parts (eqb (length slots) size) (zeros slots) all in
    let long : length slots ≡ size = eqb-true (length slots) size both.0 in
    subst (λ (xs : List ℕ). Sound equal digest [] xs) (sym (zeros_all slots both.1)) (sound_none equal digest (length slots) (k, long ∙ power))

-- emptied again they are as they were
pub emptied : (slots now : List ℕ) (size n : ℕ) → empty_index size slots ≡ true → n ≡ length slots → now ≡ replicate n 0 → now ≡ slots
emptied slots now size n all long is =
    is ∙ ap (λ k. replicate k 0) long ∙ sym (zeros_all slots (and_parts (eqb (length slots) size) (zeros slots) all).1)

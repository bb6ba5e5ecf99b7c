-- Places in lists, and marks.
use Rattle.std.proofs.Common.{◌≡◌, ℕ, ◌<◌, ◌⊎◌, inl, inr, List, [], ◌∷◌, ◌++◌, length, get_or, set, sym, refl, ◌∙◌, subst, get_or-set_same, get_or-set_other, arith}
use Rattle.std.proofs.lemmas.Bool.{cases_eq}
use Rattle.walking.specs.Listed.{Among, Distinct, Before}

pub among_left : (p : ℕ) (xs ys : List ℕ) → Among p xs → Among p (xs ++ ys)
among_left p [] ys h = absurd h
among_left p (x ∷ xs) ys (inl e) = inl e
among_left p (x ∷ xs) ys (inr h) = inr (among_left p xs ys h)

pub among_right : (p : ℕ) (xs ys : List ℕ) → Among p ys → Among p (xs ++ ys)
among_right p [] ys h = h
among_right p (x ∷ xs) ys h = inr (among_right p xs ys h)

pub among_either : (p : ℕ) (xs ys : List ℕ) → Among p (xs ++ ys) → Among p xs ⊎ Among p ys
among_either p [] ys h = inr h
among_either p (x ∷ xs) ys (inl e) = inl (inl e)
among_either p (x ∷ xs) ys (inr h) = go (among_either p xs ys h)
  where
    go : Among p xs ⊎ Among p ys → Among p (x ∷ xs) ⊎ Among p ys
    go (inl k) = inl (inr k)
    go (inr k) = inr k

pub distinct_joined : (xs ys : List ℕ) → Distinct xs → Distinct ys → ((p : ℕ) → Among p xs → Among p ys → ⊥) → Distinct (xs ++ ys)
distinct_joined [] ys a b apart = b
distinct_joined (x ∷ xs) ys a b apart =
    (λ h. go (among_either x xs ys h), distinct_joined xs ys a.1 b (λ p h k. apart p (inr h) k))
  where
    go : Among x xs ⊎ Among x ys → ⊥
    go (inl h) = a.0 h
    go (inr h) = apart x (inl refl) h

pub before_left : (p q : ℕ) (xs ys : List ℕ) → Before p q xs → Before p q (xs ++ ys)
before_left p q [] ys h = absurd h
before_left p q (x ∷ xs) ys (inl h) = inl (h.0, among_left q xs ys h.1)
before_left p q (x ∷ xs) ys (inr h) = inr (before_left p q xs ys h)

pub before_right : (p q : ℕ) (xs ys : List ℕ) → Before p q ys → Before p q (xs ++ ys)
before_right p q [] ys h = h
before_right p q (x ∷ xs) ys h = inr (before_right p q xs ys h)

abbrev pub Marked : List ℕ → ℕ → Type 0
Marked m f = get_or m f 0 ≡ 0 → ⊥

-- a fragment that is entered, and the others
pub now_marked : (m : List ℕ) (f : ℕ) → f < length m → Marked (set m f 1) f
now_marked m f low e = let one : get_or (set m f 1) f 0 ≡ 1 = get_or-set_same m f 1 0 low in omega arith

pub still_marked : (m : List ℕ) (f g : ℕ) → f < length m → Marked m g → Marked (set m f 1) g
still_marked m f g low h = go (cases_eq g f)
  where
    go : (g ≡ f) ⊎ (g ≡ f → ⊥) → Marked (set m f 1) g
    go (inl same) = rw same (now_marked m f low)
    go (inr other) = λ e. h (sym (get_or-set_other m f g 1 0 other) ∙ e)

pub was_clear : (m : List ℕ) (f g : ℕ) → f < length m → get_or (set m f 1) g 0 ≡ 0 → (g ≡ f → ⊥) × (get_or m g 0 ≡ 0)
was_clear m f g low e = go (cases_eq g f)
  where
    go : (g ≡ f) ⊎ (g ≡ f → ⊥) → (g ≡ f → ⊥) × (get_or m g 0 ≡ 0)
    go (inl same) = absurd (now_marked m f low (subst (λ (k : ℕ). get_or (set m f 1) k 0 ≡ 0) same e))
    go (inr other) = (other, sym (get_or-set_other m f g 1 0 other) ∙ e)

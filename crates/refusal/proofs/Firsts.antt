-- The steps of a search for the first fault, and what its absence says of each row.
use Rattle.std.proofs.Common.{◌≡◌, ℕ, zero, suc, ◌+◌, ◌<◌, true, false, Some, None, Ok, Err, Option, Result, sym, refl, ap, ◌∙◌, arith}
use Rattle.std.specs.Result.{is_ok}
use Rattle.std.proofs.lemmas.Bool.{false≢true}
use Rattle.refusal.specs.Firsts.{at_row, first_fault, or_else, verdict_of}

module _ {F G : Type 0} (told : F → ℕ → G) (fault : ℕ → Option F) where
  -- a row without a fault hands on to the next
  pub fault_next : (i left rest : ℕ) → left ≡ suc rest → fault i ≡ None → first_fault told fault i left ≡ first_fault told fault (i + 1) rest
  fault_next i left rest more none = grind arith

  -- a row with a fault is the first
  pub fault_here : (i left rest : ℕ) (f : F) → left ≡ suc rest → fault i ≡ Some f → first_fault told fault i left ≡ Some (told f (i + 1))
  fault_here i left rest f more here = grind arith

  pub at_row_none : (i : ℕ) (f : Option F) (rest : Option G) → at_row told i f rest ≡ None → (f ≡ None) × (rest ≡ None)
  at_row_none i None rest is = (refl, is)
  at_row_none i (Some x) rest is = grind arith

  -- where there is no first fault, no row has one
  pub no_fault : (i left : ℕ) → first_fault told fault i left ≡ None → (m : ℕ) → m < left → fault (i + m) ≡ None
  no_fault i zero none m low = grind arith
  no_fault i (suc left) none zero low = grind (arith, at_row_none i (fault i) (first_fault told fault (i + 1) left) none)
  no_fault i (suc left) none (suc m) low =
      grind (arith, no_fault (i + 1) left (at_row_none i (fault i) (first_fault told fault (i + 1) left) none).1 m (omega arith))

-- the same fault of each row gives the same first fault
pub first_same : {F G : Type 0} (told : F → ℕ → G) (fault other : ℕ → Option F) (i left : ℕ) → ((m : ℕ) → m < left → fault (i + m) ≡ other (i + m)) → first_fault told fault i left ≡ first_fault told other i left
first_same told fault other i zero same = refl
first_same told fault other i (suc left) same =
    ap (λ f. at_row told i f (first_fault told fault (i + 1) left)) (ap fault (omega arith) ∙ same 0 (omega arith) ∙ ap other (omega arith))
    ∙ ap (at_row told i (other i)) (first_same told fault other (i + 1) left (λ m low. ap fault (omega arith) ∙ same (suc m) (omega arith) ∙ ap other (omega arith)))

-- rows in two parts: the first fault of the first part, else that of the second
pub first_parts : {F G : Type 0} (told : F → ℕ → G) (fault : ℕ → Option F) (i a b : ℕ)
    → first_fault told fault i (a + b) ≡ or_else (first_fault told fault i a) (first_fault told fault (i + a) b)
first_parts told fault i zero b = grind arith
first_parts told fault i (suc a) b =
    let more : suc a + b ≡ suc (a + b) = omega arith in
    ap (first_fault told fault i) more
    ∙ ap (at_row told i (fault i)) (first_parts told fault (i + 1) a b ∙ ap (λ j. or_else (first_fault told fault (i + 1) a) (first_fault told fault j b)) (omega arith))
    ∙ spread (fault i) (first_fault told fault (i + 1) a) (first_fault told fault (i + suc a) b)
  where
    spread : (f : Option _) (x y : Option _) → at_row told i f (or_else x y) ≡ or_else (at_row told i f x) y
    spread None x y = refl
    spread (Some f) x y = refl

-- neither of two is a fault
pub or_else_none : {G : Type 0} (a b : Option G) → or_else a b ≡ None → (a ≡ None) × (b ≡ None)
or_else_none None b is = (refl, is)
or_else_none (Some x) b is = grind arith

-- what the answer of a check says of the fault
pub verdict_ok : {G : Type 0} (a : Option G) → verdict_of a ≡ Ok tt → a ≡ None
verdict_ok None is = refl
verdict_ok (Some x) is = grind arith

pub verdict_err : {G : Type 0} (a : Option G) (x : G) → verdict_of a ≡ Err x → a ≡ Some x
verdict_err None x is = grind arith
verdict_err (Some y) x is = cc

-- the answer of a check by whether it is good
pub is_fine : {G : Type 0} (r : Result Unit G) → true ≡ is_ok r → r ≡ Ok tt
is_fine (Ok tt) is = refl
is_fine (Err x) is = absurd (false≢true (sym is))

pub is_fault : {G : Type 0} (r : Result Unit G) → false ≡ is_ok r → (x : G) × (r ≡ Err x)
is_fault (Ok x) is = absurd (false≢true is)
is_fault (Err x) is = (x, refl)

-- the answer of two checks, one after the other
pub passed : {G : Type 0} (a b : Option G) → Ok tt ≡ verdict_of a → verdict_of (or_else a b) ≡ verdict_of b
passed None b is = refl
passed (Some x) b is = grind arith

pub failed : {G : Type 0} (a b : Option G) (x : G) → Err x ≡ verdict_of a → Err x ≡ verdict_of (or_else a b)
failed None b x is = grind arith
failed (Some y) b x is = is

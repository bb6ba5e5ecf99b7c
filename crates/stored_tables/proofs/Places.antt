-- The search for the first place that passes a test: its steps, two tests at once, and what it has in common with a search
-- for the first fault.
use Rattle.std.proofs.Common.{◌≡◌, ℕ, zero, suc, ◌+◌, ◌-◌, ◌<◌, ◌≤◌, Bool, true, false, cond, ◌||◌, Some, None, Option, sym, refl, ap, ◌∙◌, arith}
use Rattle.std.specs.Option.{is_some}
use Rattle.refusal.specs.Firsts.{at_row, first_fault, or_else}
use Rattle.layout.specs.declared.row.RowFault.{RowFault}
use Rattle.layout.specs.declared.row.Misfit.{Misfit}
use Rattle.layout.specs.Places.{misfit}
use Rattle.stored_tables.specs.Verdict.{first_place}
use Rattle.stored_tables.specs.Ranges.{earlier}

-- the earlier of two places, or of three

pub earlier_none : (a : Option ℕ) → earlier a None ≡ a
earlier_none None = refl
earlier_none (Some a) = refl

earlier_swap : (a b : Option ℕ) → earlier a b ≡ earlier b a
earlier_swap None b = sym (earlier_none b)
earlier_swap (Some a) None = refl
earlier_swap (Some a) (Some b) = ap Some (omega arith)

pub earlier_of_three : (a b c : Option ℕ) → earlier (earlier a b) c ≡ earlier a (earlier b c)
earlier_of_three None b c = refl
earlier_of_three (Some a) None c = refl
earlier_of_three (Some a) (Some b) None = refl
earlier_of_three (Some a) (Some b) (Some c) = ap Some (omega arith)

module _ (test : ℕ → Bool) where
  pub place_here : (i left rest : ℕ) → left ≡ suc rest → test i ≡ true → first_place test i left ≡ Some i
  place_here i left rest more here = grind arith

  pub place_on : (i left rest : ℕ) → left ≡ suc rest → test i ≡ false → first_place test i left ≡ first_place test (i + 1) rest
  place_on i left rest more other = grind arith

  parts_step : (x : Bool) (i : ℕ) (p q r : Option ℕ) → r ≡ or_else p q → cond x (Some i) r ≡ or_else (cond x (Some i) p) q
  parts_step true i p q r is = refl
  parts_step false i p q r is = is

  -- places in two parts
  pub place_parts : (i a b : ℕ) → first_place test i (a + b) ≡ or_else (first_place test i a) (first_place test (i + a) b)
  place_parts i zero b = grind arith
  place_parts i (suc a) b =
      let more : suc a + b ≡ suc (a + b) = omega arith in
      let at : i + 1 + a ≡ i + suc a = omega arith in
      ap (first_place test i) more
      ∙ parts_step (test i) i (first_place test (i + 1) a) (first_place test (i + suc a) b) (first_place test (i + 1) (a + b))
      (place_parts (i + 1) a b ∙ ap (λ j. or_else (first_place test (i + 1) a) (first_place test j b)) at)

  -- no place passes
  pub place_none : (i left : ℕ) → ((m : ℕ) → m < left → test (i + m) ≡ false) → first_place test i left ≡ None
  place_none i zero none = refl
  place_none i (suc left) none =
      let here : test i ≡ false = ap test (omega arith) ∙ none 0 (omega arith) in
      place_on i (suc left) left refl here ∙ place_none (i + 1) left (λ m low. ap test (omega arith) ∙ none (suc m) (omega arith))

  -- places that do not pass are passed over
  pub place_past : (i next end : ℕ) → i ≤ next → next ≤ end → ((k : ℕ) → i ≤ k → k < next → test k ≡ false) → first_place test i (end - i) ≡ first_place test next (end - next)
  place_past i next end low high none =
      let parts : end - i ≡ (next - i) + (end - next) = omega arith in
      let at : i + (next - i) ≡ next = omega arith in
      let passed = place_none i (next - i) (λ m less. none (i + m) (omega arith) (omega arith)) in
      ap (first_place test i) parts ∙ place_parts i (next - i) (end - next)
      ∙ ap (λ f. or_else f (first_place test (i + (next - i)) (end - next))) passed ∙ ap (λ j. first_place test j (end - next)) at

  none_step : (x : Bool) (i : ℕ) (r : Option ℕ) → cond x (Some i) r ≡ None → (x ≡ false) × (r ≡ None)
  none_step true i r is = absurd (grind arith)
  none_step false i r is = (refl, is)

  pub no_place : (i left : ℕ) → first_place test i left ≡ None → (m : ℕ) → m < left → test (i + m) ≡ false
  no_place i zero none m low = absurd (omega arith)
  no_place i (suc left) none zero low = ap test (omega arith) ∙ (none_step (test i) i (first_place test (i + 1) left) none).0
  no_place i (suc left) none (suc m) low =
      ap test (omega arith) ∙ no_place (i + 1) left (none_step (test i) i (first_place test (i + 1) left) none).1 m (omega arith)

  behind_step : (x : Bool) (i j : ℕ) (r : Option ℕ) → i ≤ j → earlier (Some i) r ≡ Some i → earlier (Some i) (cond x (Some j) r) ≡ Some i
  behind_step true i j r low is = ap Some (omega arith)
  behind_step false i j r low is = is

  -- a place before those that are searched is the earlier one
  behind : (i j left : ℕ) → i ≤ j → earlier (Some i) (first_place test j left) ≡ Some i
  behind i j zero low = refl
  behind i j (suc left) low = behind_step (test j) i j (first_place test (j + 1) left) low (behind i (j + 1) left (omega arith))

-- tests that agree
pub place_same : (test other : ℕ → Bool) (i left : ℕ) → ((m : ℕ) → m < left → test (i + m) ≡ other (i + m)) → first_place test i left ≡ first_place other i left
place_same test other i zero same = refl
place_same test other i (suc left) same =
    let here : test i ≡ other i = ap test (omega arith) ∙ same 0 (omega arith) ∙ ap other (omega arith) in
    let rest = place_same test other (i + 1) left (λ m low. ap test (omega arith) ∙ same (suc m) (omega arith) ∙ ap other (omega arith)) in
    ap (λ x. cond x (Some i) (first_place test (i + 1) left)) here ∙ ap (cond (other i) (Some i)) rest

either_step : (x y : Bool) (i : ℕ) (p q r : Option ℕ) → r ≡ earlier p q → earlier (Some i) p ≡ Some i → earlier (Some i) q ≡ Some i
    → cond (x || y) (Some i) r ≡ earlier (cond x (Some i) p) (cond y (Some i) q)
either_step true true i p q r is a b = ap Some (omega arith)
either_step true false i p q r is a b = sym b
either_step false true i p q r is a b = sym a ∙ earlier_swap (Some i) p
either_step false false i p q r is a b = is

-- the first place that passes one of two tests
pub place_either : (test other : ℕ → Bool) (i left : ℕ) → first_place (λ k. test k || other k) i left ≡ earlier (first_place test i left) (first_place other i left)
place_either test other i zero = refl
place_either test other i (suc left) =
    either_step (test i) (other i) i (first_place test (i + 1) left) (first_place other (i + 1) left) (first_place (λ k. test k || other k) (i + 1) left)
    (place_either test other (i + 1) left) (behind test i (i + 1) left (omega arith)) (behind other i (i + 1) left (omega arith))

-- where a misfit stands
abbrev pub place_of : Option Misfit → Option ℕ
place_of None = None
place_of (Some m) = Some (m.row - 1)

fault_step : (f : Option RowFault) (i : ℕ) (m : Option Misfit) (r : Option ℕ) → r ≡ place_of m → cond (is_some f) (Some i) r ≡ place_of (at_row misfit i f m)
fault_step None i m r is = is
fault_step (Some f) i m r is = ap Some (omega arith)

-- the first fault stands at the first place that has one
pub place_of_fault : (fault : ℕ → Option RowFault) (i left : ℕ) → first_place (λ k. is_some (fault k)) i left ≡ place_of (first_fault misfit fault i left)
place_of_fault fault i zero = refl
place_of_fault fault i (suc left) = fault_step (fault i) i (first_fault misfit fault (i + 1) left) (first_place (λ k. is_some (fault k)) (i + 1) left) (place_of_fault fault (i + 1) left)

told_step : (f : Option RowFault) (i : ℕ) (rest : Option Misfit) (m : Misfit) → at_row misfit i f rest ≡ Some m → (rest ≡ Some m → 0 < m.row) → 0 < m.row
told_step None i rest m is later = later is
told_step (Some f) i rest m is later = grind arith

-- a misfit is told with its place plus 1
pub told_above : (fault : ℕ → Option RowFault) (i left : ℕ) (m : Misfit) → first_fault misfit fault i left ≡ Some m → 0 < m.row
told_above fault i zero m is = grind arith
told_above fault i (suc left) m is = told_step (fault i) i (first_fault misfit fault (i + 1) left) m is (told_above fault (i + 1) left m)

below_step : (x : Bool) (i k left : ℕ) (r : Option ℕ) → cond x (Some i) r ≡ Some k → (r ≡ Some k → k < i + 1 + left) → k < i + suc left
below_step true i k left r is later = let at : i ≡ k = cc in omega arith
below_step false i k left r is later = let low = later is in omega arith

-- a place that is found is one of those that are searched
pub place_below : (test : ℕ → Bool) (i left k : ℕ) → first_place test i left ≡ Some k → k < i + left
place_below test i zero k is = grind arith
place_below test i (suc left) k is = below_step (test i) i k left (first_place test (i + 1) left) is (place_below test (i + 1) left k)

-- A row in a range, and in the smaller range beneath a row: what encloses it, how deep it stands, what is wrong with it.
use Rattle.std.proofs.Common.{◌≡◌, ℕ, zero, suc, ◌+◌, ◌-◌, ◌<◌, ◌≤◌, Bool, true, false, eqb, ltb, leb, List, get_or, IfErr, Some, None, Ok, Err, Option, Result, sym, refl, ap, ◌∙◌, subst, ⊎_elim, arith}
use Rattle.std.proofs.lemmas.Bool.{lt-ltb, eqb-false, cases_eq, cases_lt}
use Rattle.refusal.specs.Firsts.{at_row, first_fault, or_else, verdict_of}
use Rattle.refusal.proofs.Firsts.{verdict_ok, verdict_err, fault_next, fault_here, first_same, first_parts, no_fault}
use Rattle.layout.specs.declared.row.RowFault.{RowFault}
use Rattle.layout.specs.declared.row.RowView.{RowView}
use Rattle.layout.specs.declared.row.Misfit.{Misfit}
use Rattle.layout.specs.Places.{no_view, end_at, open_at, enclosing_end, own_fault, fault_in, misfit, first_misfit}

-- what it says of a row that nothing is wrong with it
pub record Fits (view : RowView) (k bound : ℕ) (deep : Bool) : Type 0 where
  pub named : view.unnamed ≡ false
  pub whole : view.broken ≡ false
  pub above : k < view.end
  pub inside : view.end ≤ bound
  pub leaf : view.leaf ≡ true → view.end ≡ k + 1
  pub shallow : deep ≡ false

pub fits : (view : RowView) (k bound : ℕ) (deep : Bool) → own_fault view k bound deep ≡ None → Fits view k bound deep
fits view k bound deep fine = grind arith

-- the other way round
pub fine : (view : RowView) (k bound : ℕ) (deep : Bool) → Fits view k bound deep → own_fault view k bound deep ≡ None
fine view k bound deep fit = grind arith

module _ (views : List RowView) where
  -- rows that end at k or before it are not open there, and enclose nothing
  none_open : (k first n : ℕ) → ((m : ℕ) → m < n → end_at views (first + m) ≤ k) → open_at views k first n ≡ 0
  none_open k first zero closed = refl
  none_open k first (suc n) closed = grind (arith, closed n, none_open k first n (λ m low. closed m (omega arith)))

  none_enclose : (k first n end : ℕ) → ((m : ℕ) → m < n → end_at views (first + m) ≤ k) → enclosing_end views k first n end ≡ end
  none_enclose k first zero end closed = refl
  none_enclose k first (suc n) end closed = grind (arith, closed n, none_enclose k first n end (λ m low. closed m (omega arith)))

  -- what encloses a row ends where the range ends, or before
  enclosed : (k first n end : ℕ) → ((m : ℕ) → m < n → end_at views (first + m) ≤ end) → enclosing_end views k first n end ≤ end
  enclosed k first zero end within = omega arith
  enclosed k first (suc n) end within = grind (arith, within n, enclosed k first n end (λ m low. within m (omega arith)))

  -- two runs of rows
  open_parts : (k first a b : ℕ) → open_at views k first (a + b) ≡ open_at views k (first + a) b + open_at views k first a
  open_parts k first a zero = grind arith
  open_parts k first a (suc b) =
      let more : a + suc b ≡ suc (a + b) = omega arith in
      let at : first + (a + b) ≡ first + a + b = omega arith in
      rw (more, at) (grind (arith, open_parts k first a b))

  enclose_parts : (k first a b end : ℕ) → enclosing_end views k first (a + b) end ≡ enclosing_end views k (first + a) b (enclosing_end views k first a end)
  enclose_parts k first a zero end = ap (λ n. enclosing_end views k first n end) (omega arith)
  enclose_parts k first a (suc b) end =
      let more : a + suc b ≡ suc (a + b) = omega arith in
      let at : first + (a + b) ≡ first + a + b = omega arith in
      rw (more, at, enclose_parts k first a b end) refl

  -- all rows from `start` up to i end there or before
  abbrev pub Closed : ℕ → ℕ → Type 0
  Closed start i = (j : ℕ) → start ≤ j → j < i → end_at views j ≤ i

  none_left : (room : ℕ) → leb room 0 ≡ eqb room 0
  none_left room = grind arith

  -- the next row directly in the range
  pub fault_next_row : (start end room i : ℕ) → start ≤ i → Closed start i → fault_in views start end room i ≡ own_fault (get_or views i no_view) i end (eqb room 0)
  fault_next_row start end room i from closed = grind (arith, closed, none_enclose, none_open, none_left)

  one_level : (room n : ℕ) → 0 < room → leb room (n + 1) ≡ leb (room - 1) n
  one_level room n some = grind arith

  -- a row beneath the next row: the same in the smaller range
  pub fault_beneath : (start end room i k : ℕ) → start ≤ i → Closed start i → 0 < room → i < k → k < end_at views i
      → fault_in views start end room k ≡ fault_in views (i + 1) (end_at views i) (room - 1) k
  fault_beneath start end room i k from closed some low high =
      let a = i - start in
      let b = k - (i + 1) in
      let gap : k - start ≡ suc a + b = omega arith in
      let at : start + suc a ≡ i + 1 = omega arith in
      let row : start + a ≡ i = omega arith in
      let before : (m : ℕ) → m < a → end_at views (start + m) ≤ k = λ m less. let e = closed (start + m) (omega arith) (omega arith) in omega arith in
      let opens : ltb k (end_at views i) ≡ true = lt-ltb k (end_at views i) high in
      let levels = one_level room (open_at views k (i + 1) b) some in
      let none = none_open k start a before in
      let bound = enclose_parts k start (suc a) b end in
      let deep = open_parts k start (suc a) b in
      grind arith

  -- a row behind closed rows: the same in the range that begins there
  pub fault_behind : (start end room i k : ℕ) → start ≤ i → Closed start i → i ≤ k → fault_in views start end room k ≡ fault_in views i end room k
  fault_behind start end room i k from closed past =
      let a = i - start in
      let gap : k - start ≡ a + (k - i) = omega arith in
      let at : start + a ≡ i = omega arith in
      let before : (m : ℕ) → m < a → end_at views (start + m) ≤ k = λ m less. let e = closed (start + m) (omega arith) (omega arith) in omega arith in
      let bound = enclose_parts k start a (k - i) end in
      let outer = none_enclose k start a end before in
      let deep = open_parts k start a (k - i) in
      let none = none_open k start a before in
      grind arith

  -- rows of a range that fit end within it
  pub within : (first end room n : ℕ) → ((m : ℕ) → m < n → fault_in views first end room (first + m) ≡ None) → (m : ℕ) → m < n → end_at views (first + m) ≤ end
  within first end room zero fine m low = absurd (omega arith)
  within first end room (suc n) fine m low =
      let before = within first end room n (λ j less. fine j (omega arith)) in
      ⊎_elim
      (λ (last : m ≡ n).
      let fit = fits (get_or views (first + n) no_view) (first + n) _ _ (fine n (omega arith)) in
      grind (arith, fit.inside, enclosed (first + n) first (first + n - first) end (λ j less. before j (omega arith))))
      (λ (other : m ≡ n → ⊥). before m (omega arith))
      (cases_eq m n)

  -- the search from a row that fits: first beneath it, then behind what is beneath it
  pub search_step : (start end room i : ℕ) → start ≤ i → Closed start i → i < end → 0 < room → i < end_at views i → end_at views i ≤ end
      → fault_in views start end room i ≡ None
      → first_fault misfit (fault_in views start end room) i (end - i)
      ≡ or_else (first_misfit views (i + 1) (end_at views i) (room - 1)) (first_fault misfit (fault_in views start end room) (end_at views i) (end - end_at views i))
  search_step start end room i from closed low some above inside fine =
      let next = end_at views i in
      let fault = fault_in views start end room in
      let gap : end - (i + 1) ≡ (next - (i + 1)) + (end - next) = omega arith in
      let at : i + 1 + (next - (i + 1)) ≡ next = omega arith in
      let here = fault_next misfit fault i (end - i) (end - (i + 1)) (omega arith) fine in
      let parts = first_parts misfit fault (i + 1) (next - (i + 1)) (end - next) in
      let beneath = first_same misfit fault (fault_in views (i + 1) next (room - 1)) (i + 1) (next - (i + 1))
      (λ m less. fault_beneath start end room i (i + 1 + m) from closed some (omega arith) (omega arith)) in
      grind arith

  -- behind a row and what is beneath it all rows so far are closed
  pub closed_next : (start room i : ℕ) → start ≤ i → Closed start i → i < end_at views i
      → first_misfit views (i + 1) (end_at views i) (room - 1) ≡ None → Closed start (end_at views i)
  closed_next start room i from closed above none j low high =
      let next = end_at views i in
      let beneath = no_fault misfit (fault_in views (i + 1) next (room - 1)) (i + 1) (next - (i + 1)) none in
      ⊎_elim
      (λ (before : j < i). let e = closed j low before in omega arith)
      (λ (rest : i ≤ j).
      ⊎_elim
      (λ (here : j ≡ i). subst (λ (k : ℕ). end_at views k ≤ next) (sym here) (omega arith))
      (λ (other : j ≡ i → ⊥).
      let at : i + 1 + (j - (i + 1)) ≡ j = omega arith in
      subst (λ (k : ℕ). end_at views k ≤ next) at (within (i + 1) next (room - 1) (next - (i + 1)) beneath (j - (i + 1)) (omega arith)))
      (cases_eq j i))
      (cases_lt j i)

  or_else_last : (f : Option Misfit) → or_else f None ≡ f
  or_else_last None = refl
  or_else_last (Some m) = refl

  -- a search that has come to i: the rows so far fit, and the rows to come have the first that does not
  pub record Searched (start end room i : ℕ) : Type 0 where
    pub from : start ≤ i
    pub inside : i ≤ end
    pub closed : Closed start i
    pub whole : first_fault misfit (fault_in views start end room) i (end - i) ≡ first_misfit views start end room

  -- a turn of the search at a row that is seen as v
  module _ (start end room i : ℕ) (v : RowView) (seen : v ≡ get_or views i no_view) (low : i < end) (at : Searched start end room i) where
    own_here : fault_in views start end room i ≡ own_fault v i end (eqb room 0)
    own_here = fault_next_row start end room i at.from at.closed ∙ ap (λ x. own_fault x i end (eqb room 0)) (sym seen)

    -- the row does not fit
    pub turn_here : (f : RowFault) → Err f ≡ verdict_of (own_fault v i end (eqb room 0)) → Err (misfit f (i + 1)) ≡ verdict_of (first_misfit views start end room)
    turn_here f bad =
        grind (arith, own_here, fault_here misfit (fault_in views start end room) i (end - i) (end - (i + 1)) f (omega arith) (own_here ∙ verdict_err _ f (sym bad)), at.whole)

    -- it fits: what is beneath it is searched, then the rest
    turn : Ok tt ≡ verdict_of (own_fault v i end (eqb room 0)) → (r : Option Misfit) → r ≡ first_misfit views (i + 1) v.end (room - 1)
        → (i < v.end) × (v.end ≤ end) × (or_else r (first_fault misfit (fault_in views start end room) v.end (end - v.end)) ≡ first_misfit views start end room) × (r ≡ None → Closed start v.end)
    turn fitting r beneath =
        let good = verdict_ok _ (sym fitting) in
        let fit = fits v i end (eqb room 0) good in
        let next : v.end ≡ end_at views i = ap (λ x. x.end) seen in
        let some : 0 < room = let z = eqb-false room 0 fit.shallow in omega arith in
        let fault = fault_in views start end room in
        let step = search_step start end room i at.from at.closed low some (omega (arith, fit.above)) (omega (arith, fit.inside)) (own_here ∙ good) in
        let told : r ≡ first_misfit views (i + 1) (end_at views i) (room - 1) = beneath ∙ ap (λ e. first_misfit views (i + 1) e (room - 1)) next in (
          fit.above,
          fit.inside,
          ap (λ x. or_else x (first_fault misfit fault v.end (end - v.end))) told
              ∙ ap (λ e. or_else (first_misfit views (i + 1) (end_at views i) (room - 1)) (first_fault misfit fault e (end - e))) next ∙ sym step ∙ at.whole,
          λ none. subst (λ (e : ℕ). Closed start e) (sym next) (closed_next start room i at.from at.closed (omega (arith, fit.above)) (sym told ∙ none)),
        )

    -- a row beneath it does not fit
    pub turn_beneath : (m : Misfit) → Ok tt ≡ verdict_of (own_fault v i end (eqb room 0)) → Err m ≡ verdict_of (first_misfit views (i + 1) v.end (room - 1))
        → Err m ≡ verdict_of (first_misfit views start end room)
    turn_beneath m fitting bad = ap verdict_of (turn fitting (Some m) (sym (verdict_err _ m (sym bad)))).2

    -- all rows beneath it fit
    pub turn_on : Ok tt ≡ verdict_of (own_fault v i end (eqb room 0)) → Ok tt ≡ verdict_of (first_misfit views (i + 1) v.end (room - 1)) → Searched start end room v.end
    turn_on fitting good =
        let all = turn fitting None (sym (verdict_ok _ (sym good))) in
        record { from = omega (arith, at.from, all.0); inside = all.1; closed = all.3 refl; whole = all.2 }

    -- nothing stands beneath it
    pub turn_alone : Ok tt ≡ verdict_of (own_fault v i end (eqb room 0)) → v.end ≤ i + 1 → Searched start end room v.end
    turn_alone fitting alone =
        let beneath = fault_in views (i + 1) v.end (room - 1) in
        let none : 0 ≡ v.end - (i + 1) = omega arith in
        turn_on fitting (ap (λ (n : ℕ). verdict_of (first_fault misfit beneath (i + 1) n)) none)

    -- nothing stands behind it: what is beneath it is all that is left
    pub turn_down : Ok tt ≡ verdict_of (own_fault v i end (eqb room 0)) → v.end ≡ end
        → Searched (i + 1) end (room - 1) (i + 1) × (first_misfit views (i + 1) end (room - 1) ≡ first_misfit views start end room)
    turn_down fitting last =
        let beneath = first_misfit views (i + 1) v.end (room - 1) in
        let all = turn fitting beneath refl in
        let fault = fault_in views start end room in
        let none : end - v.end ≡ 0 = omega arith in
        let rest : first_fault misfit fault v.end (end - v.end) ≡ None = ap (first_fault misfit fault v.end) none in
        let whole : or_else beneath None ≡ first_misfit views start end room = ap (or_else beneath) (sym rest) ∙ all.2 in (
          record { from = omega arith; inside = omega arith; closed = λ j low high. absurd (omega arith); whole = refl },
          ap (λ e. first_misfit views (i + 1) e (room - 1)) (sym last) ∙ sym (or_else_last beneath) ∙ whole,
        )

-- the row that is told is one of those searched
row_by : (i left : ℕ) (m : Misfit) (f : Option RowFault) (rest : Option Misfit) → at_row misfit i f rest ≡ Some m → (rest ≡ Some m → m.row ≤ i + 1 + left) → m.row ≤ i + suc left
row_by i left m None rest is later = let low = later is in omega arith
row_by i left m (Some f) rest is later = grind arith

pub told_row : (fault : ℕ → Option RowFault) (i left : ℕ) (m : Misfit) → first_fault misfit fault i left ≡ Some m → m.row ≤ i + left
told_row fault i zero m is = grind arith
told_row fault i (suc left) m is = grind (arith, row_by, told_row fault (i + 1) left m)

pub inside_rows : (fault : ℕ → Option RowFault) (i left n : ℕ) (r : Result Unit Misfit) → i + left ≤ n → r ≡ verdict_of (first_fault misfit fault i left) → IfErr r (λ m. m.row ≤ n)
inside_rows fault i left n (Ok x) few is = tt
inside_rows fault i left n (Err m) few is = grind (arith, told_row, verdict_err)

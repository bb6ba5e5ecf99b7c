-- One key more.
use Rattle.std.proofs.Common.{◌≡◌, ℕ, ◌+◌, ◌/◌, ◌%◌, ◌<◌, ◌≤◌, min, Bool, cond, ltb, ◌≢◌, List, [], ◌∷◌, ◌++◌, length, get_or, set, sym, ap, ◌∙◌, subst, ⊎_elim, arith}
use Rattle.std.proofs.lemmas.List.{length-set, length_push, get_or-set_same, get_or-set_other, get_or_append_left, get_or_push}
use Rattle.std.proofs.lemmas.List.Sums.{sum_by-set}
use Rattle.std.proofs.lemmas.Bool.{lt-ltb, cases_eq, cases_lt}
use Rattle.ordered_index.specs.Slots.{spot, held, used, limit}
use Rattle.ordered_index.specs.Sound.{Reached, Sound, Absent}
use Rattle.ordered_index.proofs.Ways.{Ends}

module _ (slots : List ℕ) (s v : ℕ) (inside : s < length slots) (vacant : get_or slots s 0 ≡ 0) where
  -- a slot in use stays as it was
  pub held_set : (h d : ℕ) → 0 < held slots h d → held (set slots s v) h d ≡ held slots h d
  held_set h d some =
      let other : spot slots h d ≢ s = λ at. let z = ap (λ a. get_or slots a 0) at ∙ vacant in omega arith in
      ap (λ n. get_or (set slots s v) ((h + d) % n) 0) (length-set slots s v) ∙ get_or-set_other slots s (spot slots h d) v 0 other

  pub held_here : (h d : ℕ) → s ≡ spot slots h d → held (set slots s v) h d ≡ v
  held_here h d at =
      ap (λ n. get_or (set slots s v) ((h + d) % n) 0) (length-set slots s v)
      ∙ ap (λ a. get_or (set slots s v) a 0) (sym at) ∙ get_or-set_same slots s v 0 inside

  pub reached_set : (h n : ℕ) → Reached slots h n → Reached (set slots s v) h n
  reached_set h n r = record {
    way = r.way;
    within = let e = length-set slots s v in omega (arith, r.within);
    here = held_set h r.way (omega (arith, r.here)) ∙ r.here;
    passed = λ e low. let z = held_set h e (r.passed e low) in omega (arith, r.passed e low);
  }

  pub used_set : 0 < v → used (set slots s v) ≡ used slots + 1
  used_set some =
      let f : ℕ → ℕ = λ x. cond (ltb 0 x) 1 0 in
      let sums = sum_by-set f slots s v 0 inside in
      let one : f v ≡ 1 = ap (λ b. cond b 1 0) (lt-ltb 0 v some) in
      let none : f (get_or slots s 0) ≡ 0 = ap f vacant in
      omega arith

module _ {K : Type 0} (equal : K → K → Bool) (digest : K → ℕ) (keys : List K) (slots : List ℕ) (q : K) where
  pub sound_added : (s : ℕ) → Sound equal digest keys slots → Ends equal keys slots q (digest q) s → Absent equal keys q → length keys < limit slots
      → Sound equal digest (keys ++ q ∷ []) (set slots s (length keys + 1))
  sound_added s sound ends new room =
      let v = length keys + 1 in
      let some : 0 < v = omega arith in
      let longer = length_push keys q in
      let as_long = length-set slots s v in
      record {
        power = (sound.power.0, as_long ∙ sound.power.1);
        few = let same-limit : limit (set slots s v) ≡ limit slots = ap (λ n. min (n / 2) 4294967295) as_long in omega arith;
        ranged = λ k.
            ⊎_elim
            (λ (at : k ≡ s). let e = ap (λ a. get_or (set slots s v) a 0) at ∙ get_or-set_same slots s v 0 ends.inside in omega arith)
            (λ (off : k ≡ s → ⊥). let e = get_or-set_other slots s k v 0 off in let r = sound.ranged k in omega arith)
            (cases_eq k s);
        filled = used_set slots s v ends.inside ends.vacant some ∙ ap (λ n. n + 1) sound.filled ∙ sym longer;
        reached = λ n x inside.
            ⊎_elim
            (λ (low : n < length keys).
            subst (λ (k : K). Reached (set slots s v) (digest k) n) (sym (get_or_append_left keys (q ∷ []) x n low))
            (reached_set slots s v ends.inside ends.vacant _ n (sound.reached n x low)))
            (λ (high : length keys ≤ n).
            let at : length keys ≡ n = omega arith in
            subst (λ (k : K). Reached (set slots s v) (digest k) n) (sym (get_or_push keys q x n at))
            (record {
              way = ends.way;
              within = omega (arith, ends.within);
              here = held_here slots s v ends.inside ends.vacant (digest q) ends.way ends.here ∙ ap (λ k. k + 1) at;
              passed = λ e low.
                  let taken = (ends.before e low).taken in
                  let kept = held_set slots s v ends.inside ends.vacant (digest q) e taken in
                  omega arith;
            }))
            (cases_lt n (length keys));
        apart = λ i j x low inside.
            let low-in : i < length keys = omega arith in
            ap (λ k. equal k (get_or (keys ++ q ∷ []) j x)) (get_or_append_left keys (q ∷ []) x i low-in)
            ∙ ⊎_elim
            (λ (old : j < length keys).
            ap (equal (get_or keys i x)) (get_or_append_left keys (q ∷ []) x j old) ∙ sound.apart i j x low old)
            (λ (high : length keys ≤ j).
            let at : length keys ≡ j = omega arith in
            ap (equal (get_or keys i x)) (get_or_push keys q x j at) ∙ new i x low-in)
            (cases_lt j (length keys));
      }

-- What the end of a probe says of a sound index, and what says that an index is sound.
use Rattle.std.proofs.Common.{◌≡◌, ℕ, zero, suc, ◌+◌, ◌<◌, ◌≤◌, Bool, true, ◌⊎◌, List, length, get_or, sym, ap, ◌∙◌, subst, inl, inr, ⊎_elim, arith}
use Rattle.std.proofs.lemmas.List.{get_or_default}
use Rattle.std.proofs.lemmas.Bool.{both_ways, cases_Bool, cases_order, cases_eq}
use Rattle.ordered_index.specs.Law.{Lawful}
use Rattle.std.specs.Int.{IsPowerOfTwo}
use Rattle.ordered_index.specs.Slots.{held, used, limit}
use Rattle.ordered_index.specs.Sound.{Reached, Sound, Absent, Stands, Only}
use Rattle.ordered_index.proofs.Ways.{AllMissed, Meets, Ends}

-- the first way that holds n
pub record First (slots : List ℕ) (h n w : ℕ) : Type 0 where
  pub way : ℕ
  pub before : way ≤ w
  pub here : held slots h way ≡ n
  pub not_yet : (e : ℕ) → e < way → held slots h e ≡ n → ⊥

-- either one of the first w slots holds n, and there is a first, or none does
pub first_below : (slots : List ℕ) (h n w : ℕ) → First slots h n w ⊎ ((e : ℕ) → e < w → held slots h e ≡ n → ⊥)
first_below slots h n zero = inr (λ e l is. omega arith)
first_below slots h n (suc w) =
    ⊎_elim
    (λ f. inl (record { way = f.way; before = omega arith; here = f.here; not_yet = f.not_yet }))
    (λ none. ⊎_elim
    (λ is. inl (record { way = w; before = omega arith; here = is; not_yet = none }))
    (λ isnt. inr (λ e l is. ⊎_elim (λ (at : e ≡ w). isnt (ap (held slots h) (sym at) ∙ is)) (λ (low : e ≡ w → ⊥). none e (omega arith) is) (cases_eq e w)))
    (cases_eq (held slots h w) n))
    (first_below slots h n w)

pub first_to : (slots : List ℕ) (h n w : ℕ) → held slots h w ≡ n → First slots h n w
first_to slots h n w here =
    ⊎_elim (λ f. f) (λ none. record { way = w; before = omega arith; here = here; not_yet = none }) (first_below slots h n w)

module _ {K : Type 0} (equal : K → K → Bool) (digest : K → ℕ) (laws : Lawful equal digest) (keys : List K) (slots : List ℕ) where
  -- a probe does not pass by a key that equals q
  pub not_passed : (q : K) (h n w d : ℕ) (x : K) → n < length keys → equal (get_or keys n x) q ≡ true → held slots h w ≡ n + 1 → w < d → AllMissed equal keys slots q h d → ⊥
  not_passed q h n w d x inside same here low missed =
      both_ways (equal (get_or keys n x) q) ((missed w low).other n x here inside) same

  pub reached_by : (q : K) (n : ℕ) (x : K) → Sound equal digest keys slots → n < length keys → equal (get_or keys n x) q ≡ true → Reached slots (digest q) n
  reached_by q n x sound inside same =
      subst (λ (h : ℕ). Reached slots h n) (laws.hashes (get_or keys n x) q same) (sound.reached n x inside)

  -- an empty slot: q is not there
  pub ends_absent : (q : K) (s : ℕ) → Sound equal digest keys slots → Ends equal keys slots q (digest q) s → Absent equal keys q
  ends_absent q s sound ends n x inside =
      ⊎_elim
      (λ (same : equal (get_or keys n x) q ≡ true).
      let r = reached_by q n x sound inside same in
      let empty : held slots (digest q) ends.way ≡ 0 = ap (λ a. get_or slots a 0) (sym ends.here) ∙ ends.vacant in
      absurd (⊎_elim
      (λ (at : r.way ≡ ends.way). let z : held slots (digest q) ends.way ≡ n + 1 = ap (held slots (digest q)) (sym at) ∙ r.here in omega arith)
      (⊎_elim
      (λ (low : r.way < ends.way). not_passed q (digest q) n r.way ends.way x inside same r.here low ends.before)
      (λ (high : ends.way < r.way). let z = r.passed ends.way high in omega arith))
      (cases_order r.way ends.way)))
      (λ differs. differs)
      (cases_Bool (equal (get_or keys n x) q))

  -- a way round: q is not there
  pub round_absent : (q : K) → Sound equal digest keys slots → AllMissed equal keys slots q (digest q) (length slots) → Absent equal keys q
  round_absent q sound missed n x inside =
      ⊎_elim
      (λ (same : equal (get_or keys n x) q ≡ true).
      let r = reached_by q n x sound inside same in
      absurd (not_passed q (digest q) n r.way (length slots) x inside same r.here r.within missed))
      (λ differs. differs)
      (cases_Bool (equal (get_or keys n x) q))

  -- two places are not both equal to q
  pub one_place : (q : K) (m n : ℕ) (x y : K) → Sound equal digest keys slots → m < n → n < length keys → equal (get_or keys m x) q ≡ true → equal (get_or keys n y) q ≡ true → ⊥
  one_place q m n x y sound low inside p p' =
      let first : m < length keys = omega arith in
      let q-n = laws.back (get_or keys n y) q p' in
      let m-n = laws.through (get_or keys m x) q (get_or keys n y) p q-n in
      let m-n' = subst (λ (z : K). equal (get_or keys m x) z ≡ true) (get_or_default keys n y x inside) m-n in
      both_ways _ (sound.apart m n x low inside) m-n'

  pub meets_only : (q : K) (n : ℕ) → Sound equal digest keys slots → Stands equal keys q n → Only equal keys q n
  meets_only q n sound stands = record {
    stands = stands;
    only = λ m x inside same.
        ⊎_elim (λ (at : m ≡ n). at)
        (⊎_elim
        (λ (low : m < n). absurd (one_place q m n x x sound low stands.inside same (stands.equals x)))
        (λ (high : n < m). absurd (one_place q n m x x sound high inside (stands.equals x) same)))
        (cases_order m n);
  }

  -- where each key is met by its own probe, the keys are reached and apart
  pub met_sound : IsPowerOfTwo (length slots) → length keys ≤ limit slots → ((s : ℕ) → get_or slots s 0 ≤ length keys) → used slots ≡ length keys
      → ((n : ℕ) (x : K) → n < length keys → Meets equal keys slots (get_or keys n x) (digest (get_or keys n x)) n)
      → Sound equal digest keys slots
  met_sound power few ranged filled met = record {
    power = power;
    few = few;
    ranged = ranged;
    filled = filled;
    reached = λ n x inside.
        let m = met n x inside in
        record { way = m.way; within = m.within; here = m.here; passed = λ e low. (m.before e low).taken };
    apart = λ i j x low inside.
        ⊎_elim
        (λ (same : equal (get_or keys i x) (get_or keys j x) ≡ true).
        let low-in : i < length keys = omega arith in
        let a = met i x low-in in
        let b = met j x inside in
        let same-hash = laws.hashes (get_or keys i x) (get_or keys j x) same in
        let a-here = ap (λ (h : ℕ). held slots h a.way) (sym same-hash) ∙ a.here in
        let b_here = ap (λ (h : ℕ). held slots h b.way) same-hash ∙ b.here in
        absurd (⊎_elim
        (λ (at : a.way ≡ b.way). let z = sym a-here ∙ ap (held slots (digest (get_or keys j x))) at ∙ b.here in omega arith)
        (⊎_elim
        (λ (less : a.way < b.way). not_passed (get_or keys j x) _ i a.way b.way x low-in same a-here less b.before)
        (λ (more : b.way < a.way). not_passed (get_or keys i x) _ j b.way a.way x inside (laws.back _ _ same) b_here more a.before))
        (cases_order a.way b.way)))
        (λ differs. differs)
        (cases_Bool (equal (get_or keys i x) (get_or keys j x)));
  }

  -- in a sound index each key is met by its own probe
  pub sound_met : Sound equal digest keys slots → (n : ℕ) (x : K) → n < length keys → Meets equal keys slots (get_or keys n x) (digest (get_or keys n x)) n
  sound_met sound n x inside =
      let q = get_or keys n x in
      let r = sound.reached n x inside in
      let f = first_to slots (digest q) (n + 1) r.way r.here in
      let itself : (y : K) → equal (get_or keys n y) q ≡ true = λ y. subst (λ (z : K). equal z q ≡ true) (get_or_default keys n x y inside) (laws.itself q) in
      record {
        inside = inside;
        equals = itself;
        way = f.way;
        within = omega (arith, r.within, f.before);
        here = f.here;
        before = λ e low. record {
          taken = r.passed e (omega (arith, f.before));
          other = λ m y is inside'.
              ⊎_elim
              (λ (same : equal (get_or keys m y) q ≡ true).
              let at : m ≡ n = (meets_only q n sound (record { inside = inside; equals = itself })).only m y inside' same in
              absurd (f.not_yet e low (is ∙ ap (λ k. k + 1) at)))
              (λ differs. differs)
              (cases_Bool (equal (get_or keys m y) q));
        };
      }

  -- a probe meets one place only
  pub one_met : (q : K) (h m n : ℕ) → Meets equal keys slots q h m → Meets equal keys slots q h n → m ≡ n
  one_met q h m n a b =
      ⊎_elim
      (λ (at : a.way ≡ b.way). let z = sym a.here ∙ ap (held slots h) at ∙ b.here in omega arith)
      (⊎_elim
      (λ (less : a.way < b.way). absurd (not_passed q h m a.way b.way q a.inside (a.equals q) a.here less b.before))
      (λ (more : b.way < a.way). absurd (not_passed q h n b.way a.way q b.inside (b.equals q) b.here more a.before)))
      (cases_order a.way b.way)

  pub ends_not_met : (q : K) (h n s : ℕ) → Ends equal keys slots q h s → Meets equal keys slots q h n → ⊥
  ends_not_met q h n s ends b =
      let empty : held slots h ends.way ≡ 0 = ap (λ a. get_or slots a 0) (sym ends.here) ∙ ends.vacant in
      ⊎_elim
      (λ (at : b.way ≡ ends.way). let z : held slots h ends.way ≡ n + 1 = ap (held slots h) (sym at) ∙ b.here in omega arith)
      (⊎_elim
      (λ (low : b.way < ends.way). not_passed q h n b.way ends.way q b.inside (b.equals q) b.here low ends.before)
      (λ (high : ends.way < b.way). let z = (b.before ends.way high).taken in omega arith))
      (cases_order b.way ends.way)

  pub round_not_met : (q : K) (h n : ℕ) → AllMissed equal keys slots q h (length slots) → Meets equal keys slots q h n → ⊥
  round_not_met q h n missed b = not_passed q h n b.way (length slots) q b.inside (b.equals q) b.here b.within missed

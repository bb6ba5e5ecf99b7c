-- The steps of the defined probe, and that what it comes to is its outcome as a relation.
use Rattle.std.proofs.Common.{◌≡◌, ℕ, zero, suc, ◌+◌, ◌-◌, ◌%◌, ◌<◌, ◌≤◌, Bool, true, false, ◌&&◌, eqb, leb, List, map, length, get_or, sym, refl, ap, ◌∙◌, subst, ⊎_elim, add-zero, add_assoc, mod-lt, arith, below_more}
use native.Mathlib.Nat.{mod-add-mod}
use Rattle.std.proofs.lemmas.List.{get_or_default, get_or-map, length-map}
use Rattle.std.proofs.lemmas.Bool.{cond-true, cond-false, cond_both, ne_eqb, eqb-true, eqb-false, leb-true, leb-false, le-leb, lt-leb, and_left, and_parts, and_cases}
use Rattle.ordered_index.specs.Slots.{spot, held, slot_after, slot_start}
use Rattle.ordered_index.specs.Probing.{names, probe}
use Rattle.ordered_index.specs.declared.probe.Probed.TheVariants.{Found, Vacant}
use Rattle.ordered_index.proofs.Ways.{Missed, AllMissed, Outcome}

module _ {K : Type 0} (equal : K → K → Bool) (keys : List K) (slots : List ℕ) (q : K) where
  -- a slot that names an equal key ends it too
  pub probe_found : (at left rest : ℕ) → left ≡ suc rest → (get_or slots at 0 ≡ 0 → ⊥) → names equal keys q (get_or slots at 0) ≡ true
      → probe equal keys slots q at left ≡ Found (get_or slots at 0 - 1)
  probe_found at left rest more some here =
      ap (probe equal keys slots q at) more ∙ cond-false _ _ _ (ne_eqb _ _ some) ∙ cond-true _ _ _ here

  -- any other slot hands it on
  pub probe_next : (at left rest : ℕ) → left ≡ suc rest → (get_or slots at 0 ≡ 0 → ⊥) → names equal keys q (get_or slots at 0) ≡ false
      → probe equal keys slots q at left ≡ probe equal keys slots q (slot_after at (length slots)) rest
  probe_next at left rest more some other =
      ap (probe equal keys slots q at) more ∙ cond-false _ _ _ (ne_eqb _ _ some) ∙ cond-false _ _ _ other

module _ {K : Type 0} (equal : K → K → Bool) (keys : List K) (slots : List ℕ) (q : K) (h : ℕ) where
  -- the slot after d + 1 others is the one after the slot after d others
  spot_next : (d : ℕ) → slot_after (spot slots h d) (length slots) ≡ spot slots h (d + 1)
  spot_next d = mod-add-mod (h + d) (length slots) 1 ∙ ap (λ n. n % length slots) (add_assoc h d 1)

  -- a slot in use that names no equal key is missed
  passed_by : (d : ℕ) → (held slots h d ≡ 0 → ⊥) → names equal keys q (held slots h d) ≡ false → Missed equal keys slots q h d
  passed_by d some off = record {
    taken = omega arith;
    other = λ n x is inside.
        ⊎_elim
        (λ (far : leb (held slots h d) (length keys) ≡ false). absurd (omega (arith, leb-false (held slots h d) (length keys) far)))
        (λ (differs : equal (get_or keys (held slots h d - 1) q) q ≡ false).
        let at : n ≡ held slots h d - 1 = omega arith in
        ap (λ k. equal k q) (get_or_default keys n x q inside ∙ ap (λ m. get_or keys m q) at) ∙ differs)
        (and_cases _ _ off);
  }

  outcome_from : (left d : ℕ) → d + left ≡ length slots → AllMissed equal keys slots q h d
      → Outcome equal keys slots q h (probe equal keys slots q (spot slots h d) left)
  outcome_from zero d all missed = λ e low. missed e (omega arith)
  outcome_from (suc left) d all missed =
      let v = held slots h d in
      let some-slot : 0 < length slots = omega arith in
      let within : d < length slots = omega arith in
      cond_both (eqb v 0) (Vacant (spot slots h d)) _ (Outcome equal keys slots q h)
      (λ none. record {
        inside = mod-lt (h + d) some-slot;
        vacant = eqb-true v 0 none;
        way = d;
        within = within;
        here = refl;
        before = missed;
      })
      (λ some.
      let used = eqb-false v 0 some in
      cond_both (names equal keys q v) (Found (v - 1)) _ (Outcome equal keys slots q h)
      (λ met.
      let both = and_parts _ _ met in
      let low = leb-true v (length keys) both.0 in
      let inside : v - 1 < length keys = omega arith in
      record {
        inside = inside;
        equals = λ x. ap (λ k. equal k q) (get_or_default keys (v - 1) x q inside) ∙ both.1;
        way = d;
        within = within;
        here = omega arith;
        before = missed;
      })
      (λ off.
      subst (λ (at : ℕ). Outcome equal keys slots q h (probe equal keys slots q at left)) (sym (spot_next d))
      (outcome_from left (d + 1) (omega arith) (below_more _ _ missed (passed_by d used off)))))

  pub outcome : Outcome equal keys slots q h (probe equal keys slots q (slot_start h (length slots)) (length slots))
  outcome =
      subst (λ (at : ℕ). Outcome equal keys slots q h (probe equal keys slots q (at % length slots) (length slots))) (add-zero h)
      (outcome_from (length slots) 0 (omega arith) (λ e low. absurd (omega arith)))

module _ {E K : Type 0} (keyed : E → K) (equal : K → K → Bool) (entries : List E) (q : K) where
  -- the key of an entry that was read
  key_at : (n : ℕ) (x : E) → n < length entries → x ≡ get_or entries n x → get_or (map keyed entries) n q ≡ keyed x
  key_at n x inside read = get_or-map keyed entries n x q inside ∙ ap keyed (sym read)

  -- whether a slot names an equal key, from the entry that was read there
  pub names_read : (v : ℕ) (x : E) (b : Bool) → (v ≡ 0 → ⊥) → v ≤ length entries → x ≡ get_or entries (v - 1) x → b ≡ equal (keyed x) q
      → names equal (map keyed entries) q v ≡ b
  names_read v x b some inside read is =
      let low : v - 1 < length entries = omega arith in
      let fits : leb v (length (map keyed entries)) ≡ true = le-leb v (length (map keyed entries)) (omega (arith, length-map entries keyed)) in
      ap (λ t. t && equal (get_or (map keyed entries) (v - 1) q) q) fits
      ∙ ap (λ k. equal k q) (key_at (v - 1) x low read) ∙ sym is

  -- a slot that holds a place past the entries names none
  pub names_none : (v : ℕ) → length entries < v → names equal (map keyed entries) q v ≡ false
  names_none v far = and_left _ _ (lt-leb v (length (map keyed entries)) (omega (arith, length-map entries keyed)))

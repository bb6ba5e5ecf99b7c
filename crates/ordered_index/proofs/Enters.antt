-- What a probe comes to on a sound index: where a key is, and that the index stays sound with one key more.
use Rattle.std.proofs.Common.{◌≡◌, ℕ, nat_eq, ◌+◌, ◌<◌, Bool, true, false, List, [], ◌∷◌, ◌++◌, map, length, get_or, take, set, Some, None, Option, sym, refl, ap, ◌∙◌, subst, arith}
use Rattle.std.proofs.lemmas.List.{length-map, length-take-le, map_push, take_more_set, get_or-map}
use Rattle.std.proofs.lemmas.Bool.{ltb-true, eqb-true, eq-eqb, false≢true}
use Rattle.std.specs.List.{list_all, enumerate_from}
use Rattle.std.specs.Option.{option_eq}
use Rattle.std.proofs.lemmas.List.Sums.{AllPass-from_list_all, list_all-from_AllPass}
use Rattle.std.proofs.lemmas.List.FromFn.{length-enumerate_from, get_or-enumerate_from}
use Rattle.ordered_index.specs.Law.{Lawful}
use Rattle.ordered_index.specs.Slots.{limit}
use Rattle.ordered_index.specs.Sound.{Sound, Located, keys_of}
use Rattle.ordered_index.specs.Probing.{probe_for, found_at}
use Rattle.ordered_index.specs.Entering.{enter_room, entered, present, slots_after, keys_after}
use Rattle.ordered_index.specs.declared.probe.Probed.{Probed}
use Rattle.ordered_index.specs.declared.probe.Probed.TheVariants.{Found, Vacant, Round}
use Rattle.ordered_index.specs.declared.index.Entered.{Entered}
use Rattle.ordered_index.specs.declared.index.Entered.TheVariants.{Added, Full}
use Rattle.ordered_index.proofs.Ways.{Outcome, Meets}
use Rattle.ordered_index.proofs.Probes.{outcome}
use Rattle.ordered_index.proofs.Places.{meets_only, ends_absent, round_absent, one_met, ends_not_met, round_not_met}
use Rattle.ordered_index.proofs.Adds.{sound_added}
use Rattle.ordered_index.proofs.Rounds.{no_round}

module _ {K : Type 0} (equal : K → K → Bool) (digest : K → ℕ) (keys : List K) (slots : List ℕ) (q : K) where
  -- an empty slot that a probe comes to is one of the slots
  vacant_at : (p : Probed) (s : ℕ) → Outcome equal keys slots q (digest q) p → p ≡ Vacant s → s < length slots
  vacant_at p s out is = (subst (Outcome equal keys slots q (digest q)) is out).inside

  pub vacant_inside : (s : ℕ) → Vacant s ≡ probe_for equal digest keys slots q → s < length slots
  vacant_inside s is = vacant_at (probe_for equal digest keys slots q) s (outcome equal keys slots q (digest q)) (sym is)

  -- what is found is met
  found_at_met : (p : Probed) (n : ℕ) → Outcome equal keys slots q (digest q) p → found_at p ≡ Some n → Meets equal keys slots q (digest q) n
  found_at_met (Found m) n out is = let at : m ≡ n = cc in subst (Meets equal keys slots q (digest q)) at out
  found_at_met (Vacant s) n out is = let z : ◌≡◌ {A = ℕ} 0 1 = cc in absurd (omega arith)
  found_at_met Round n out is = let z : ◌≡◌ {A = ℕ} 0 1 = cc in absurd (omega arith)

  pub found_met : (n : ℕ) → found_at (probe_for equal digest keys slots q) ≡ Some n → Meets equal keys slots q (digest q) n
  found_met n is = found_at_met (probe_for equal digest keys slots q) n (outcome equal keys slots q (digest q)) is

module _ {K : Type 0} (equal : K → K → Bool) (digest : K → ℕ) (laws : Lawful equal digest) (keys : List K) (slots : List ℕ) (q : K) where
  -- what is met is found
  met_at_found : (p : Probed) (n : ℕ) → Outcome equal keys slots q (digest q) p → Meets equal keys slots q (digest q) n → found_at p ≡ Some n
  met_at_found (Found m) n out met = ap Some (one_met equal digest laws keys slots q (digest q) m n out met)
  met_at_found (Vacant s) n out met = absurd (ends_not_met equal digest laws keys slots q (digest q) n s out met)
  met_at_found Round n out met = absurd (round_not_met equal digest laws keys slots q (digest q) n out met)

  pub met_found : (n : ℕ) → Meets equal keys slots q (digest q) n → found_at (probe_for equal digest keys slots q) ≡ Some n
  met_found n met = met_at_found (probe_for equal digest keys slots q) n (outcome equal keys slots q (digest q)) met

  located_at : (p : Probed) → Sound equal digest keys slots → Outcome equal keys slots q (digest q) p → Located equal keys q (found_at p)
  located_at (Found n) sound out = meets_only equal digest laws keys slots q n sound (record { inside = out.inside; equals = out.equals })
  located_at (Vacant s) sound out = ends_absent equal digest laws keys slots q s sound out
  located_at Round sound out = round_absent equal digest laws keys slots q sound out

  -- a sound index finds the one place of a key, or that it has none
  pub located : Sound equal digest keys slots → Located equal keys q (found_at (probe_for equal digest keys slots q))
  located sound = located_at (probe_for equal digest keys slots q) sound (outcome equal keys slots q (digest q))

  pub finding : (p : Probed) (r : Option ℕ) → p ≡ probe_for equal digest keys slots q → found_at p ≡ r
      → (r ≡ found_at (probe_for equal digest keys slots q)) × (Sound equal digest keys slots → Located equal keys q r)
  finding p r is gives =
      let answer = sym gives ∙ ap found_at is in
      (answer, λ sound. subst (Located equal keys q) (sym answer) (located sound))

  present_found : (p : Probed) (room : Bool) (count : ℕ) → present (entered p room count) ≡ found_at p
  present_found (Found n) room count = refl
  present_found (Vacant s) true count = refl
  present_found (Vacant s) false count = refl
  present_found Round room count = refl

  -- the same, as entering a key tells it
  pub enter_located : (room : Bool) (count : ℕ) (r : Entered) → r ≡ entered (probe_for equal digest keys slots q) room count
      → Sound equal digest keys slots → Located equal keys q (present r)
  enter_located room count r is sound =
      subst (Located equal keys q) (sym (ap present is ∙ present_found (probe_for equal digest keys slots q) room count)) (located sound)

  entered_sound : (p : Probed) (room : Bool) (count : ℕ) → Outcome equal keys slots q (digest q) p
      → (room ≡ true → (length keys ≡ count) × (count < limit slots)) → Sound equal digest keys slots
      → Sound equal digest (keys_after keys (entered p room count) q) (slots_after p (entered p room count) slots)
  entered_sound (Found n) room count out fits sound = sound
  entered_sound (Vacant s) false count out fits sound = sound
  entered_sound (Vacant s) true count out fits sound =
      let both = fits refl in
      let absent = ends_absent equal digest laws keys slots q s sound out in
      let low : length keys < limit slots = omega (arith, both.0, both.1) in
      subst (λ (n : ℕ). Sound equal digest (keys ++ q ∷ []) (set slots s (n + 1))) both.0
      (sound_added equal digest keys slots q s sound out absent low)
  entered_sound Round room count out fits sound = sound

  entered_full : (p : Probed) (room : Bool) (count : ℕ) → Outcome equal keys slots q (digest q) p → Sound equal digest keys slots → entered p room count ≡ Full → room ≡ false
  entered_full (Found n) room count out sound full = let z : ◌≡◌ {A = ℕ} 0 1 = cc in absurd (omega arith)
  entered_full (Vacant s) true count out sound full = let z : ◌≡◌ {A = ℕ} 0 1 = cc in absurd (omega arith)
  entered_full (Vacant s) false count out sound full = refl
  entered_full Round room count out sound full = absurd (no_round equal digest keys slots q (digest q) sound out)

  -- only want of room makes it full
  pub enter_full : (room : Bool) (count : ℕ) (r : Entered) → r ≡ entered (probe_for equal digest keys slots q) room count
      → Sound equal digest keys slots → r ≡ Full → room ≡ false
  enter_full room count r is sound full =
      entered_full (probe_for equal digest keys slots q) room count (outcome equal keys slots q (digest q)) sound (sym is ∙ full)

  -- with one key more the index is sound again
  pub enter_sound : (room : Bool) (count : ℕ) → (room ≡ true → (length keys ≡ count) × (count < limit slots))
      → (r : Entered) → r ≡ entered (probe_for equal digest keys slots q) room count
      → (slots' : List ℕ) → slots' ≡ slots_after (probe_for equal digest keys slots q) r slots
      → Sound equal digest keys slots → Sound equal digest (keys_after keys r q) slots'
  enter_sound room count fits r is slots' then sound =
      let p = probe_for equal digest keys slots q in
      let done = entered_sound p room count (outcome equal keys slots q (digest q)) fits sound in
      let family : Entered → Type 0 = λ x. Sound equal digest (keys_after keys x q) (slots_after p x slots) in
      subst (λ (l : List ℕ). Sound equal digest (keys_after keys r q) l) (sym then) (subst family (sym is) done)

-- what entering a key among these entries comes to, from the end of its probe
module _ {E K : Type 0} (keyed : E → K) (equal : K → K → Bool) (digest : K → ℕ) (laws : Lawful equal digest) (entries : List E) (slots : List ℕ) (q : K) where
  abbrev keys : List K
  keys = map keyed entries

  room_fits : enter_room entries slots ≡ true → (length keys ≡ length entries) × (length entries < limit slots)
  room_fits room = (length-map entries keyed, ltb-true (length entries) (limit slots) room)

  pub entering : (p : Probed) → p ≡ probe_for equal digest keys slots q
      → (r : Entered) → r ≡ entered p (enter_room entries slots) (length entries) → (slots' : List ℕ) → slots' ≡ slots_after p r slots
      → (r ≡ entered (probe_for equal digest keys slots q) (enter_room entries slots) (length entries))
      × (slots' ≡ slots_after (probe_for equal digest keys slots q) r slots)
      × (Sound equal digest keys slots → Located equal keys q (present r))
      × (Sound equal digest keys slots → r ≡ Full → enter_room entries slots ≡ false)
      × (Sound equal digest keys slots → Sound equal digest (keys_after keys r q) slots')
  entering p is r answers slots' then =
      let room = enter_room entries slots in
      let answer = answers ∙ ap (λ x. entered x room (length entries)) is in
      let written = then ∙ ap (λ x. slots_after x r slots) is in (
        answer,
        written,
        enter_located equal digest laws keys slots q room (length entries) r answer,
        enter_full equal digest laws keys slots q room (length entries) r answer,
        enter_sound equal digest laws keys slots q room (length entries) room_fits r answer slots' written,
      )

-- where the key of an entry was added, it is the key of the entry that is written there
module _ {E K : Type 0} (keyed : E → K) (equal : K → K → Bool) (digest : K → ℕ) (entries : List E) (count : ℕ) where
  added_at : (p : Probed) (room : Bool) (i n : ℕ) → Added n ≡ entered p room i → n ≡ i
  added_at (Found j) room i n is = let z : ◌≡◌ {A = ℕ} 0 1 = cc in absurd (omega arith)
  added_at (Vacant j) true i n is = cc
  added_at (Vacant j) false i n is = let z : ◌≡◌ {A = ℕ} 0 1 = cc in absurd (omega arith)
  added_at Round room i n is = let z : ◌≡◌ {A = ℕ} 0 1 = cc in absurd (omega arith)

  pub inserting : (q : K) (e : E) → q ≡ keyed e → count < length entries
      → (p : Probed) (room : Bool) (n : ℕ) → Added n ≡ entered p room (length (take count entries)) → (slots : List ℕ)
      → Sound equal digest (keys_of keyed count entries ++ q ∷ []) slots → Sound equal digest (keys_of keyed (count + 1) (set entries n e)) slots
  inserting q e is low p room n answers slots =
      let at : n ≡ count = added_at p room (length (take count entries)) n answers ∙ length-take-le count entries (omega arith) in
      let row : keys_of keyed count entries ++ q ∷ [] ≡ keys_of keyed (count + 1) (set entries n e) =
      ap (λ k. keys_of keyed count entries ++ k ∷ []) is ∙ sym (map_push keyed (take count entries) e)
      ∙ ap (map keyed) (sym (take_more_set entries count e low) ∙ ap (λ i. take (count + 1) (set entries i e)) (sym at)) in
      subst (λ (keys : List K). Sound equal digest keys slots) row

-- whether each entry is found at its own place, as a test of all of them
module _ {E K : Type 0} (keyed : E → K) (equal : K → K → Bool) (digest : K → ℕ) (entries : List E) (slots : List ℕ) where
  abbrev found_for : K → Option ℕ
  found_for k = found_at (probe_for equal digest (map keyed entries) slots k)

  abbrev at_place : ℕ × E → Bool
  at_place placed = option_eq nat_eq (found_for (keyed placed.1)) (Some placed.0)

  same_place : (r : Option ℕ) (i : ℕ) → option_eq nat_eq r (Some i) ≡ true → r ≡ Some i
  same_place None i is = absurd (false≢true is)
  same_place (Some n) i is = ap Some (eqb-true n i is)

  any_of : (xs : List E) (n : ℕ) → n < length xs → E
  any_of [] n low = absurd (omega arith)
  any_of (x ∷ xs) n low = x

  pub each_placed : list_all at_place (enumerate_from 0 entries) ≡ true → (n : ℕ) (x : K) → n < length (map keyed entries) → found_for (get_or (map keyed entries) n x) ≡ Some n
  each_placed all n x low =
      let inside : n < length entries = omega (arith, length-map entries keyed) in
      let d = any_of entries n inside in
      let pass = AllPass-from_list_all at_place (enumerate_from 0 entries) all n (0, d) (omega (arith, length-enumerate_from 0 entries)) in
      let here = get_or-enumerate_from 0 entries n (0, d) inside in
      ap found_for (get_or-map keyed entries n d x inside) ∙ same_place _ (0 + n) (sym (ap at_place here) ∙ pass) ∙ ap Some (omega arith)

  pub all_placed : ((n : ℕ) (x : K) → n < length (map keyed entries) → found_for (get_or (map keyed entries) n x) ≡ Some n) → list_all at_place (enumerate_from 0 entries) ≡ true
  all_placed each = list_all-from_AllPass at_place (enumerate_from 0 entries) (λ n d low.
      let inside : n < length entries = omega (arith, length-enumerate_from 0 entries) in
      let found = ap found_for (sym (get_or-map keyed entries n d.1 (keyed d.1) inside)) ∙ each n (keyed d.1) (omega (arith, length-map entries keyed)) in
      ap at_place (get_or-enumerate_from 0 entries n d inside)
      ∙ ap (λ r. option_eq nat_eq r (Some (0 + n))) found ∙ eq-eqb n (0 + n) (omega arith))

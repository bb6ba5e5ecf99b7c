-- What is found through an index, and what the first place that is found tells.
use Rattle.std.proofs.Common.{◌≡◌, ℕ, ◌<◌, ◌≤◌, Bool, cond, true, List, [], ◌∷◌, map, length, get_or, is_some, Some, None, Option, IfSome, Bor, ltb, sym, refl, ap, ◌∙◌, ⊎_elim, arith}
use Rattle.std.specs.Option.{option_copied, option_and_then}
use Rattle.std.proofs.lemmas.Option.{slice_get_past, slice_get-get_or}
use Rattle.std.proofs.lemmas.List.Folds.{find_at}
use Rattle.std.proofs.lemmas.List.Quantifiers.{position-Some}
use Rattle.std.proofs.lemmas.Iterator.Adapters.{position_from-zero}
use Rattle.std.proofs.lemmas.Bool.{cond-true, cond-false, false≢true, lt-ltb, le-ltb, cases_lt, eqb-true, and_parts}
use Rattle.std.specs.List.{find, position_from, position_or_len, slice_get}
use Rattle.ordered_index.specs.Sound.{Sound}
use Rattle.ordered_index.specs.Probing.{probe_for, found_at}
use Rattle.ordered_index.specs.Law.{Lawful}
use Rattle.ordered_index.specs.Keys.{same_field}
use Rattle.ordered_index.proofs.Firsts.{located_place}
use Rattle.ordered_index.proofs.Enters.{located}
use Rattle.table_schema.specs.declared.rows.TypeRow.{TypeRow}
use Rattle.table_schema.specs.declared.rows.FieldEntry.{FieldEntry}
use Rattle.table_schema.specs.Keys.{field_key, entry_key}
use Rattle.table_schema.specs.Found.{place_with, first_with, KeysFound}
use Rattle.table_schema.specs.Meaning.{known_type}
use Rattle.table_schema.specs.Kept.{no_entry, OwnersKnown}

-- the first element that passes, and its place
module _ {X : Type 0} (p : X → Bool) (xs : List X) where
  read : (n : ℕ) → slice_get xs n ≡ option_and_then (slice_get xs) (cond (ltb n (length xs)) (Some n) None)
  read n =
      ⊎_elim
      (λ (low : n < length xs). sym (ap (option_and_then (slice_get xs)) (cond-true _ _ _ (lt-ltb n (length xs) low))))
      (λ (past : length xs ≤ n). slice_get_past xs n past ∙ sym (ap (option_and_then (slice_get xs)) (cond-false _ _ _ (le-ltb n (length xs) past))))
      (cases_lt n (length xs))

  pub find_placed : find p xs ≡ option_and_then (slice_get xs) (position_from p 0 xs)
  find_placed = find_at p xs ∙ read (position_or_len p xs) ∙ ap (option_and_then (slice_get xs)) (position_from-zero p xs)

  -- what stands at that place lies within, and passes
  pub first_at : (n : ℕ) (d : X) → position_from p 0 xs ≡ Some n → (n < length xs) × (p (get_or xs n d) ≡ true)
  first_at n d is = let hit = position-Some p xs n d (position_from-zero p xs ∙ is) in (hit.0, hit.1)

-- a sound index of the entries answers with the place of the first entry that has the key
pub finds_all : {E K : Type 0} (keyed : E → K) (equal : K → K → Bool) (digest : K → ℕ) → Lawful equal digest → (entries : List E) (slots : List ℕ)
    → Sound equal digest (map keyed entries) slots → KeysFound keyed equal digest entries slots
finds_all keyed equal digest laws entries slots sound q =
    let keys = map keyed entries in
    located_place keyed equal entries q (found_at (probe_for equal digest keys slots q)) (located equal digest laws keys slots q sound)

-- a search through slots that are known to find every key
pub found_place : {E K : Type 0} (keyed : E → K) (equal : K → K → Bool) (digest : K → ℕ) (entries es : List E) (slots ss : List ℕ) (q : K) (r : Option ℕ)
    → KeysFound keyed equal digest entries slots → es ≡ entries → ss ≡ slots → r ≡ found_at (probe_for equal digest (map keyed es) ss q)
    → place_with keyed equal q entries ≡ r
found_place keyed equal digest entries es slots ss q r found same-entries same-slots answer =
    sym (answer
    ∙ ap (λ x. found_at (probe_for equal digest (map keyed x) ss q)) same-entries
    ∙ ap (λ s. found_at (probe_for equal digest (map keyed entries) s q)) same-slots
    ∙ found q)

-- the first entry that has the key stands at the first place that has it
module _ {E K : Type 0} (keyed : E → K) (equal : K → K → Bool) (q : K) where
  abbrev has : E → Bool
  has e = equal (keyed e) q

  pub with_none : (entries : List E) → place_with keyed equal q entries ≡ None → first_with keyed equal q entries ≡ None
  with_none entries is = find_placed has entries ∙ ap (option_and_then (slice_get entries)) is

  pub with_some : (entries : List E) (n : ℕ) (d : E) → place_with keyed equal q entries ≡ Some n → first_with keyed equal q entries ≡ Some (get_or entries n d)
  with_some entries n d is =
      find_placed has entries ∙ ap (option_and_then (slice_get entries)) is ∙ slice_get-get_or entries n d (first_at has entries n d is).0

  -- an entry that is read at that place
  pub read_at : (entries es : List E) (n : ℕ) (r : Option (Bor E)) → es ≡ entries → place_with keyed equal q entries ≡ Some n
      → is_some r ≡ ltb n (length es) → IfSome r (λ e. e.now ≡ get_or es n e.now) → option_copied r ≡ first_with keyed equal q entries
  read_at [] es n None same at inside read = let z : ◌≡◌ {A = ℕ} 0 1 = cc in absurd (omega arith)
  read_at (x ∷ xs) es n None same at inside read =
      let low = (first_at has (x ∷ xs) n x at).0 in
      absurd (false≢true (inside ∙ lt-ltb n (length es) (omega (arith, low, ap length same))))
  read_at entries es n (Some e) same at inside read =
      ap Some (read ∙ ap (λ l. get_or l n e.now) same) ∙ sym (with_some entries n e.now at)

  -- the other way: from the first entry to its place
  place_none : (entries : List E) (at : Option ℕ) → place_with keyed equal q entries ≡ at → first_with keyed equal q entries ≡ None → at ≡ None
  place_none entries None is none = refl
  place_none [] (Some n) is none = sym is
  place_none (e ∷ es) (Some n) is none =
      let found = sym none ∙ with_some (e ∷ es) n e is in let z : ◌≡◌ {A = ℕ} 0 1 = cc in absurd (omega arith)

  place_some : (entries : List E) (at : Option ℕ) (e d : E) → place_with keyed equal q entries ≡ at → first_with keyed equal q entries ≡ Some e
      → (n : ℕ) × (at ≡ Some n) × (get_or entries n d ≡ e)
  place_some entries None e d is some = let none = sym (with_none entries is) ∙ some in let z : ◌≡◌ {A = ℕ} 0 1 = cc in absurd (omega arith)
  place_some entries (Some n) e d is some =
      let both : Some (get_or entries n d) ≡ Some e = sym (with_some entries n d is) ∙ some in
      (n, refl, cc)

  pub none_place : (entries : List E) → first_with keyed equal q entries ≡ None → place_with keyed equal q entries ≡ None
  none_place entries none = place_none entries (place_with keyed equal q entries) refl none

  pub some_place : (entries : List E) (e d : E) → first_with keyed equal q entries ≡ Some e
      → (n : ℕ) × (place_with keyed equal q entries ≡ Some n) × (get_or entries n d ≡ e)
  some_place entries e d some = place_some entries (place_with keyed equal q entries) e d refl some

  -- whether there is one
  there : (entries : List E) (r : Option E) → first_with keyed equal q entries ≡ r → is_some r ≡ is_some (place_with keyed equal q entries)
  there entries None is = ap is_some (sym (none_place entries is))
  there entries (Some e) is = ap is_some (sym (some_place entries e e is).1)

  pub any_with : (entries : List E) → is_some (first_with keyed equal q entries) ≡ is_some (place_with keyed equal q entries)
  any_with entries = there entries (first_with keyed equal q entries) refl

-- the owner of a field that is found is known
pub owner_known : (types : List TypeRow) (entries : List FieldEntry) (t f : ℕ) (e : FieldEntry) → OwnersKnown types entries
    → first_with entry_key same_field (field_key t f) entries ≡ Some e → known_type types t ≡ true
owner_known types entries t f e owners is =
    let at = some_place entry_key same_field (field_key t f) entries e no_entry is in
    let hit = first_at (λ x. same_field (entry_key x) (field_key t f)) entries at.0 no_entry at.1 in
    let both = and_parts _ _ hit.1 in
    ap (known_type types) (sym (eqb-true _ t both.0)) ∙ owners at.0 hit.0

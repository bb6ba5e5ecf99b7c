-- Where the entry of each kept definition stands in its table.
use Rattle.std.proofs.Common.{◌≡◌, ℕ, ◌<◌, Bool, true, ◌⊎◌, inl, inr, List, [], ◌∷◌, map, length, Some, None, Option, ap, ◌∙◌, subst, ⊎_elim, arith}
use Rattle.std.specs.List.{Contains, slice_index}
use Rattle.std.proofs.lemmas.List.{get_or-map, get_or_default, length-map}
use Rattle.std.proofs.lemmas.List.Elements.{Contains-get_or}
use Rattle.selection_rules.specs.Stored.{stored_of}
use Rattle.building_rules.specs.Definitions.{Kept, Role}
use Rattle.building_rules.specs.Rules.{anonymous_role, named_role, fragment_role}
use Rattle.stored_tables.specs.declared.definition.StoredDefinition.{StoredDefinition}
use Rattle.stored_tables.specs.Layout.{those_of, latest}
use Rattle.stored_tables.specs.Verdict.{no_stored_definition, definition_at}
use Rattle.finished_rules.specs.Numbers.{entry, has_role, numbers, EntryOf, TablePlaces}
use Rattle.finished_rules.proofs.Elements.{here, later, out_of_map}
use Rattle.finished_rules.proofs.Numbers.{table_rows, range_end, numbered}

module _ (test : Role → Bool) (ks : List Kept) where
  long_numbers : length (those_of test 0 ks) ≡ length (numbers test ks)
  long_numbers = ap length (numbered test ks).entries ∙ length-map (numbers test ks) (entry ks)

  pub entry_at : (i : ℕ) → i < length (those_of test 0 ks) → EntryOf test ks (definition_at (those_of test 0 ks) i) (slice_index (numbers test ks) i)
  entry_at i low =
      let all = numbered test ks in
      let long = long_numbers in
      let inside : i < length (numbers test ks) = omega arith in
      let n = slice_index (numbers test ks) i in
      let two = (all.each n).0 (Contains-get_or (numbers test ks) i 0 inside) in
      record {
        there = two.0;
        role = two.1;
        laid = ap (λ ds. definition_at ds i) all.entries ∙ get_or-map (entry ks) (numbers test ks) i 0 no_stored_definition inside;
      }

  -- and where the entry of a number is
  pub place_of : (n : ℕ) → n < length ks → has_role test ks n ≡ true → (i : ℕ) × (i < length (those_of test 0 ks)) × (definition_at (those_of test 0 ks) i ≡ entry ks n)
  place_of n low role =
      let found = ((numbered test ks).each n).1 (low, role) in
      let long = long_numbers in
      let inside : found.0 < length (those_of test 0 ks) = omega arith in
      let is : slice_index (numbers test ks) found.0 ≡ n = get_or_default (numbers test ks) found.0 0 n found.1 ∙ found.2 in
      (found.0, inside, (entry_at found.0 inside).laid ∙ ap (entry ks) is)

latest_is : (before : Option StoredDefinition) (ds : List StoredDefinition) (s : StoredDefinition) → latest before ds ≡ Some s → (before ≡ Some s) ⊎ Contains ds s
latest_is before [] s e = inl e
latest_is before (d ∷ ds) s e =
    ⊎_elim (λ (is : Some d ≡ Some s). let same : d ≡ s = cc in inr (subst (Contains (d ∷ ds)) same (here d ds))) (λ rest. inr (later d s ds rest)) (latest_is (Some d) ds s e)

anonymous_at : (ks : List Kept) (s : StoredDefinition) → latest None (those_of anonymous_role 0 ks) ≡ Some s → (n : ℕ) × EntryOf anonymous_role ks s n
anonymous_at ks s e =
    let all = numbered anonymous_role ks in
    let found : Contains (those_of anonymous_role 0 ks) s = ⊎_elim (λ (no : None ≡ Some s). cc) (λ at. at) (latest_is None (those_of anonymous_role 0 ks) s e) in
    let from = out_of_map (entry ks) (numbers anonymous_role ks) s (subst (λ (l : List StoredDefinition). Contains l s) all.entries found) in
    let two = (all.each from.0).0 from.1 in
    let laid : s ≡ entry ks from.0 = cc in
    (from.0, record { there = two.0; role = two.1; laid = laid })

pub table_places : TablePlaces
table_places ks d holds =
    record {
      rows = ap (map stored_of) holds.rows ∙ table_rows 0 ks;
      ranges = range_end ks;
      numbered = λ test. numbered test ks;
      operations = rw holds.operations (entry_at named_role ks);
      fragments = rw holds.fragments (entry_at fragment_role ks);
      anonymous = rw holds.anonymous (anonymous_at ks);
    }

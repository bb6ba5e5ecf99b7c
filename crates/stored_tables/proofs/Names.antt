-- Tables in which no two definitions have one name: where two have it, they stand at one place.
use Rattle.std.proofs.Common.{◌≡◌, ℕ, ◌<◌, ◌≤◌, ◌⊎◌, inl, inr, false, eqb, List, map, length, get_or, sym, ◌∙◌, arith}
use Rattle.std.proofs.lemmas.Bool.{eqb-false, cases_lt}
use Rattle.std.proofs.lemmas.List.{get_or-map, length-map}
use Rattle.stored_tables.specs.declared.definition.StoredDefinition.{StoredDefinition}
use Rattle.stored_tables.specs.Layout.{name_of}
use Rattle.stored_tables.specs.Verdict.{no_stored_definition, definition_at}

-- no two definitions of a table have one name
abbrev pub Apart : List StoredDefinition → Type 0
Apart ds = (i j : ℕ) (n : ℕ) → i < j → j < length (map name_of ds) → eqb (get_or (map name_of ds) i n) (get_or (map name_of ds) j n) ≡ false

module _ (ds : List StoredDefinition) (apart : Apart ds) where
  differ : (i j : ℕ) → i < j → j < length ds → (definition_at ds i).row.name ≡ (definition_at ds j).row.name → ⊥
  differ i j less low same =
      let long = length-map ds name_of in
      eqb-false _ _ (apart i j 0 less (omega arith))
      (get_or-map name_of ds i no_stored_definition 0 (omega arith) ∙ same ∙ sym (get_or-map name_of ds j no_stored_definition 0 low))

  pub one_place : (i j : ℕ) → i < length ds → j < length ds → (definition_at ds i).row.name ≡ (definition_at ds j).row.name → i ≡ j
  one_place i j a b same = go (cases_lt i j) (cases_lt j i)
    where
      go : (i < j) ⊎ (j ≤ i) → (j < i) ⊎ (i ≤ j) → i ≡ j
      go (inl less) z = absurd (differ i j less b same)
      go (inr z) (inl less) = absurd (differ j i less a (sym same))
      go (inr z) (inr u) = omega arith

-- The place of a name in a table, as an index tells it, is where the name is taken.
use Rattle.std.proofs.Common.{◌∷◌, ◌≡◌, ℕ, zero, suc, ◌<◌, ◌≤◌, Bool, true, false, cond, eqb, ◌≢◌, List, map, length, get_or, take, Some, None, Option, sym, refl, ap, ◌∙◌, subst, ⊎_elim, arith}
use Rattle.std.proofs.lemmas.List.{get_or-map, get_or-take, length-take-le, length-map, take_all}
use Rattle.std.proofs.Math.Logic.{∥∥₁_elim}
use Rattle.std.proofs.Props.{props}
use Rattle.std.proofs.lemmas.Bool.{eqb-true, eqb-false, eq-eqb, ne_eqb, cond-true, cond-false, cases_eq}
use Rattle.ordered_index.specs.Keys.{same_name, name_hash}
use Rattle.ordered_index.specs.Sound.{keys_of, Sound, Located, Only, Absent}
use Rattle.building_rules.specs.Definitions.{Taken, taken_at}
use Rattle.stored_tables.specs.declared.definition.StoredDefinition.{StoredDefinition}
use Rattle.stored_tables.specs.Layout.{name_of}
use Rattle.stored_tables.specs.Verdict.{no_stored_definition}
use Rattle.builder.specs.Holding.{taken_by}

module _ (entries : List StoredDefinition) (count : ℕ) (fits : count ≤ length entries) where
  keys_long : length (keys_of name_of count entries) ≡ count
  keys_long = length-map (take count entries) name_of ∙ length-take-le count entries fits

  -- the key at a place is the name of the definition there
  key_at : (n x : ℕ) → n < count → get_or (keys_of name_of count entries) n x ≡ (get_or entries n no_stored_definition).row.name
  key_at n x low =
      let long = length-take-le count entries fits in
      get_or-map name_of (take count entries) n no_stored_definition x (omega arith)
      ∙ ap name_of (get_or-take count entries n no_stored_definition low)

  turn : (a b : ℕ) (t : Bool) → eqb a b ≡ t → eqb b a ≡ t
  turn a b true e = eq-eqb b a (sym (eqb-true a b e))
  turn a b false e = ne_eqb b a (λ f. eqb-false a b e (sym f))

  module _ (name : ℕ) where
    absent_taken : Absent same_name (keys_of name_of count entries) name → (n : ℕ) → n ≤ count → taken_at name (taken_by entries n) ≡ None
    absent_taken absent zero low = refl
    absent_taken absent (suc n) low =
        let long = keys_long in
        let other : eqb name (get_or entries n no_stored_definition).row.name ≡ false =
        turn _ _ false (ap (λ (x : ℕ). eqb x name) (sym (key_at n 0 (omega arith))) ∙ absent n 0 (omega arith))
        in
        cond-false _ _ _ other ∙ absent_taken absent n (omega arith)

    module _ (k : ℕ) (only : Only same_name (keys_of name_of count entries) name k) where
      here : eqb name (get_or entries k no_stored_definition).row.name ≡ true
      here =
          let long = keys_long in
          let inside = only.stands.inside in
          turn _ _ true (ap (λ (x : ℕ). eqb x name) (sym (key_at k 0 (omega arith))) ∙ only.stands.equals 0)

      elsewhere : (n : ℕ) → n < count → n ≢ k → eqb name (get_or entries n no_stored_definition).row.name ≡ false
      elsewhere n low other =
          ne_eqb _ _ (λ same.
          let long = keys_long in
          let found : eqb (get_or (keys_of name_of count entries) n 0) name ≡ true = eq-eqb _ name (key_at n 0 low ∙ sym same) in
          other (only.only n 0 (omega arith) found))

      only_taken : (n : ℕ) → k < n → n ≤ count → taken_at name (taken_by entries n) ≡ Some (get_or entries k no_stored_definition).row.name_location
      only_taken zero above low = absurd (omega arith)
      only_taken (suc n) above low =
          ⊎_elim
          (λ (same : n ≡ k). subst (λ (j : ℕ). cond (eqb name (get_or entries j no_stored_definition).row.name) (Some (get_or entries j no_stored_definition).row.name_location) (taken_at name (taken_by entries n)) ≡ Some (get_or entries k no_stored_definition).row.name_location) (sym same) (cond-true _ _ _ here))
          (λ (other : n ≢ k). cond-false _ _ _ (elsewhere n (omega arith) other) ∙ only_taken n (omega arith) (omega arith))
          (cases_eq n k)

  pub inside : (name k : ℕ) → Located same_name (keys_of name_of count entries) name (Some k) → k < count
  inside name k only = let long = keys_long in let in-keys = only.stands.inside in omega arith

  pub found : (name k : ℕ) → Located same_name (keys_of name_of count entries) name (Some k)
      → Some (get_or entries k no_stored_definition).row.name_location ≡ taken_at name (taken_by entries count)
  found name k only = sym (only_taken name k only count (inside name k only) (omega arith))

  pub missing : (name : ℕ) → Located same_name (keys_of name_of count entries) name None → None ≡ taken_at name (taken_by entries count)
  missing name absent = sym (absent_taken name absent count (omega arith))

-- the same, of definitions that are all in use, by an index that is sound
module _ (definitions : List StoredDefinition) (slots : List ℕ) (name : ℕ) (r : Option ℕ)
    (located : Sound same_name name_hash (map name_of definitions) slots → Located same_name (map name_of definitions) name r)
    (sound : ∥ Sound same_name name_hash (map name_of definitions) slots ∥₁) where
  of_all : Sound same_name name_hash (map name_of definitions) slots → Located same_name (keys_of name_of (length definitions) definitions) name r
  of_all s =
      subst (λ (ds : List StoredDefinition). Located same_name (map name_of ds) name r) (sym (take_all (length definitions) definitions (omega arith))) (located s)

  pub found_all : (k : ℕ) → r ≡ Some k → Some (get_or definitions k no_stored_definition).row.name_location ≡ taken_at name (taken_by definitions (length definitions))
  found_all k is =
      ∥∥₁_elim sound (Prim.hlevel props) (λ s. found definitions (length definitions) (omega arith) name k (subst (Located same_name (keys_of name_of (length definitions) definitions) name) is (of_all s)))

  pub missing_all : r ≡ None → None ≡ taken_at name (taken_by definitions (length definitions))
  missing_all is =
      ∥∥₁_elim sound (Prim.hlevel props) (λ s. missing definitions (length definitions) (omega arith) name (subst (Located same_name (keys_of name_of (length definitions) definitions) name) is (of_all s)))

-- the names that the definitions in use take are those of the table
in_use_same : (entries : List StoredDefinition) (n m : ℕ) → m ≤ n → taken_by (take n entries) m ≡ taken_by entries m
in_use_same entries n zero low = refl
in_use_same entries n (suc m) low =
    let here = get_or-take n entries m no_stored_definition (omega arith) in
    ap (λ (d : StoredDefinition). record { name = d.row.name; location = d.row.name_location } ∷ taken_by (take n entries) m) here
    ∙ ap (λ (l : List Taken). record { name = (get_or entries m no_stored_definition).row.name; location = (get_or entries m no_stored_definition).row.name_location } ∷ l) (in_use_same entries n m (omega arith))

pub taken_in_use : (entries : List StoredDefinition) (n : ℕ) (l : List StoredDefinition) → n ≤ length entries → l ≡ take n entries → taken_by l (length l) ≡ taken_by entries n
taken_in_use entries n l fits is =
    ap (λ (x : List StoredDefinition). taken_by x (length x)) is
    ∙ ap (taken_by (take n entries)) (length-take-le n entries fits)
    ∙ in_use_same entries n n (omega arith)

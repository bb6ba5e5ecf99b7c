-- Tables in which no two definitions have one name: as many of them, of which each of the one is the same as one of the
-- other, are as good as each of either the same as one of the other.
use Rattle.std.proofs.Common.{◌≡◌, ℕ, zero, suc, ◌<◌, ◌≤◌, true, false, eqb, eq-eqb, List, ◌∷◌, map, length, get_or, sym, ap, ◌∙◌, subst, ⊎_elim, arith}
use Rattle.std.specs.List.{Contains, list_any}
use Rattle.std.specs.Cmp.{nat_eq_equiv}
use Rattle.std.proofs.lemmas.Bool.{cases_Bool, eqb-false, false≢true}
use Rattle.std.proofs.lemmas.Bool.Decides.{Decides-eqb}
use Rattle.std.proofs.lemmas.List.{get_or-map, get_or_default, length-map}
use Rattle.std.proofs.lemmas.List.Elements.{Contains-get_or}
use Rattle.std.proofs.lemmas.List.Folds.{list_any_at}
use Rattle.std.proofs.lemmas.Map.Keys.{IsDistinct-from_apart}
use Rattle.std.proofs.lemmas.Map.Made.{is_member-Decides, length-le_from_is_member}
use Rattle.ordered_index.specs.Sound.{Absent, Only}
use Rattle.selection_rules.specs.declared.stored.StoredRow.{StoredRow}
use Rattle.stored_tables.specs.declared.definition.StoredDefinition.{StoredDefinition}
use Rattle.stored_tables.specs.Layout.{name_of}
use Rattle.stored_tables.specs.Verdict.{no_stored_definition, definition_at}
use Rattle.stored_tables.proofs.Names.{Apart, one_place}
use Rattle.finished_rules.specs.SameTables.{SameDefinition, SameTables}

-- each definition of a table has its name in the other
abbrev NamesIn : List StoredDefinition → List StoredDefinition → Type 0
NamesIn ds es = (d : StoredDefinition) → Contains ds d → (e : StoredDefinition) × Contains es e × (d.row.name ≡ e.row.name)

name_in : (ds : List StoredDefinition) (d : StoredDefinition) → Contains ds d → Contains (map name_of ds) d.row.name
name_in ds d here =
    let long = length-map ds name_of in
    (here.0, omega (arith, here.1), get_or-map name_of ds here.0 d d.row.name here.1 ∙ ap name_of here.2)

named_in : (ds : List StoredDefinition) (n : ℕ) → Contains (map name_of ds) n → (d : StoredDefinition) × Contains ds d × (d.row.name ≡ n)
named_in ds n here =
    let long = length-map ds name_of in
    let low : here.0 < length ds = omega (arith, here.1) in
    (definition_at ds here.0, Contains-get_or ds here.0 no_stored_definition low, sym (get_or-map name_of ds here.0 no_stored_definition n low) ∙ here.2)

-- so a table with names of its own is no longer than one that has them
fewer : (ds es : List StoredDefinition) → Apart ds → NamesIn ds es → length ds ≤ length es
fewer ds es apart names =
    let long = length-map ds name_of in
    let other = length-map es name_of in
    let within = length-le_from_is_member nat_eq_equiv (map name_of ds) (map name_of es) (IsDistinct-from_apart eqb (map name_of ds) apart)
    (λ n is.
    let d = named_in ds n ((is_member-Decides Decides-eqb (map name_of ds) n).0 is) in
    let e = names d.0 d.1 in
    (is_member-Decides Decides-eqb (map name_of es) n).1 (subst (Contains (map name_of es)) (sym e.2 ∙ d.2) (name_in es e.0 e.1))) in
    omega (arith, within)

-- two definitions with one name are one
one_name : (ds : List StoredDefinition) → Apart ds → (d e : StoredDefinition) → Contains ds d → Contains ds e → d.row.name ≡ e.row.name → d ≡ e
one_name ds apart d e p q same =
    let at-d : definition_at ds p.0 ≡ d = get_or_default ds p.0 no_stored_definition d p.1 ∙ p.2 in
    let at-e : definition_at ds q.0 ≡ e = get_or_default ds q.0 no_stored_definition e q.1 ∙ q.2 in
    let names : (definition_at ds p.0).row.name ≡ (definition_at ds q.0).row.name = ap name_of at-d ∙ same ∙ sym (ap name_of at-e) in
    sym at-d ∙ ap (definition_at ds) (one_place ds apart p.0 q.0 p.1 q.1 names) ∙ at-e

-- a definition with a new name, before a table
module _ (ds : List StoredDefinition) (e : StoredDefinition) (new : list_any (eqb e.row.name) (map name_of ds) ≡ false) where
  not_here : (j n : ℕ) → j < length (map name_of ds) → eqb e.row.name (get_or (map name_of ds) j n) ≡ false
  not_here j n low =
      ⊎_elim (λ is. absurd (false≢true (sym new ∙ list_any_at (eqb e.row.name) (map name_of ds) j n low is))) (λ is. is)
      (cases_Bool (eqb e.row.name (get_or (map name_of ds) j n)))

  apart_more : Apart ds → Apart (e ∷ ds)
  apart_more apart i zero n less low = absurd (omega arith)
  apart_more apart zero (suc j) n less low = not_here j n (omega arith)
  apart_more apart (suc i) (suc j) n less low = apart i j n (omega arith) (omega arith)

names_more : (ds es : List StoredDefinition) (e : StoredDefinition) → Contains es e → NamesIn ds es → NamesIn (e ∷ ds) es
names_more ds es e here names d (zero, low, is) = (e, here, ap name_of (sym is))
names_more ds es e here names d (suc k, low, is) = names d (k, omega arith, is)

module _ (rows others : List StoredRow) (ds es : List StoredDefinition) (apart : Apart ds) (distinct : Apart es) where
  abbrev Meets : StoredDefinition → StoredDefinition → Type 0
  Meets d e = SameDefinition rows others d e

  module _ (few : length es ≤ length ds) (one : (d : StoredDefinition) → Contains ds d → (e : StoredDefinition) × Contains es e × Meets d e) where
    names : NamesIn ds es
    names d here = let e = one d here in (e.0, e.1, e.2.members.head.name)

    other : (e : StoredDefinition) → Contains es e → (d : StoredDefinition) × Contains ds d × Meets d e
    other e here =
        ⊎_elim
        (λ is.
        let d = named_in ds e.row.name ((is_member-Decides Decides-eqb (map name_of ds) e.row.name).0 is) in
        let f = one d.0 d.1 in
        let same = one_name es distinct f.0 e f.1 here (sym f.2.members.head.name ∙ d.2) in
        (d.0, d.1, subst (Meets d.0) same f.2))
        (λ new. let more = fewer (e ∷ ds) es (apart_more ds e new apart) (names_more ds es e here names) in absurd (omega arith))
        (cases_Bool (list_any (eqb e.row.name) (map name_of ds)))

  -- as many, each of the one the same as one of the other
  pub all_matched : length ds ≡ length es → ((i : ℕ) → i < length ds → (k : ℕ) × (k < length es) × Meets (definition_at ds i) (definition_at es k)) → SameTables rows others ds es
  all_matched many each =
      let one : (d : StoredDefinition) → Contains ds d → (e : StoredDefinition) × Contains es e × Meets d e =
      λ d here.
      let k = each here.0 here.1 in
      let at : definition_at ds here.0 ≡ d = get_or_default ds here.0 no_stored_definition d here.1 ∙ here.2 in
      (definition_at es k.0, Contains-get_or es k.0 no_stored_definition k.1, subst (λ (x : StoredDefinition). Meets x (definition_at es k.0)) at k.2) in
      record { one = one; other = other (omega arith) one }

  module _ (same : SameTables rows others ds es) where
    pub as_many : length ds ≡ length es
    as_many =
        let most = fewer ds es apart (λ d here. let e = same.one d here in (e.0, e.1, e.2.members.head.name)) in
        let least = fewer es ds distinct (λ e here. let d = same.other e here in (d.0, d.1, sym d.2.members.head.name)) in
        omega arith

    pub match_at : (i : ℕ) → i < length ds → (k : ℕ) × (k < length es) × Meets (definition_at ds i) (definition_at es k)
    match_at i low =
        let e = same.one (definition_at ds i) (Contains-get_or ds i no_stored_definition low) in
        let at : definition_at es e.1.0 ≡ e.0 = get_or_default es e.1.0 no_stored_definition e.0 e.1.1 ∙ e.1.2 in
        (e.1.0, e.1.1, subst (Meets (definition_at ds i)) (sym at) e.2)

    -- where no definition of the other table has the name
    pub not_absent : (i : ℕ) → i < length ds → Absent eqb (map name_of es) (definition_at ds i).row.name → ⊥
    not_absent i low absent =
        let k = match_at i low in
        let long = length-map es name_of in
        eqb-false _ _ (absent k.0 0 (omega (arith, k.1))) (get_or-map name_of es k.0 no_stored_definition 0 k.1 ∙ sym k.2.members.head.name)

    -- where one has it
    pub found_same : (i n : ℕ) → i < length ds → Only eqb (map name_of es) (definition_at ds i).row.name n → Meets (definition_at ds i) (definition_at es n)
    found_same i n low only =
        let k = match_at i low in
        let long = length-map es name_of in
        let here : eqb (get_or (map name_of es) k.0 0) (definition_at ds i).row.name ≡ true = eq-eqb _ _ (get_or-map name_of es k.0 no_stored_definition 0 k.1 ∙ sym k.2.members.head.name) in
        subst (λ (j : ℕ). Meets (definition_at ds i) (definition_at es j)) (only.only k.0 0 (omega (arith, k.1)) here) k.2

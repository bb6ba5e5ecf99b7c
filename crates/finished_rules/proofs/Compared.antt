-- Tables are the same exactly when what is kept is the same.
use Rattle.std.proofs.Common.{◌≡◌, Bool, true, false, List, [], ◌∷◌, map, Some, None, Option, sym, refl, ap, ◌∙◌, subst, ⊎_elim}
use Rattle.std.proofs.lemmas.Bool.{false≢true}
use Rattle.std.specs.List.{AllByRecursion, Contains}
use Rattle.selection_rules.specs.declared.stored.StoredRow.{StoredRow}
use Rattle.schema.specs.Meaning.{Meaning}
use Rattle.building_rules.specs.Definitions.{Kept, Role, anonymous_operation, named_operation, fragment, type_system, role_of, kept_in}
use Rattle.building_rules.specs.Rules.{operation_role, anonymous_role, named_role, fragment_role}
use Rattle.building_rules.specs.Storable.{Storable}
use Rattle.building_rules.proofs.Storable.{kept_is_storable}
use Rattle.stored_tables.specs.declared.definition.StoredDefinition.{StoredDefinition}
use Rattle.stored_tables.specs.declared.stored.StoredDocument.{StoredDocument}
use Rattle.stored_tables.specs.Verdict.{alone}
use Rattle.finished_rules.specs.Same.{Same, EachIsSame}
use Rattle.finished_rules.specs.SameTables.{SameDefinition, SameAnonymous, SameTables, SameDocuments}
use Rattle.finished_rules.specs.Answered.{KeptAsAnswered, SameAsStored}
use Rattle.finished_rules.specs.Tables.{read_back, kept_as, ReadsBack}
use Rattle.finished_rules.specs.Compared.{TablesCompare}
use Rattle.finished_rules.proofs.Answered.{same_role, kept_is_answered, answers_follow}
use Rattle.finished_rules.proofs.Tables.{tables_read_back}
use Rattle.finished_rules.proofs.Elements.{here, none_there, all_there, here_or_later, in_filter, out_of_filter, in_map, out_of_map}

-- Definitions and what is read back of them

module _ (rows others : List StoredRow) (d e : StoredDefinition) where
  back : SameDefinition rows others d e → SameAsStored (read_back rows d) (read_back others e)
  back same = record { heads = same.members.head; set_type = same.members.set_type; rows = same.selected }

  forth : SameAsStored (read_back rows d) (read_back others e) → SameDefinition rows others d e
  forth same = record { members = record { head = same.heads; set_type = same.set_type }; selected = same.rows }

-- one anonymous operation, or none
module _ (rows others : List StoredRow) where
  listed : (a b : Option StoredDefinition) → SameAnonymous rows others a b → SameTables rows others (alone a) (alone b)
  listed None None same = record { one = λ d at. none_there d at; other = λ e at. none_there e at }
  listed None (Some e) same = absurd same
  listed (Some d) None same = absurd same
  listed (Some d) (Some e) same =
      record {
        one = λ x at. (e, here e [], subst (λ (y : StoredDefinition). SameDefinition rows others y e) (only x d at) same);
        other = λ x at. (d, here d [], subst (λ (y : StoredDefinition). SameDefinition rows others d y) (only x e at) same);
      }
    where
      only : (x d : StoredDefinition) → Contains (d ∷ []) x → d ≡ x
      only x d at = ⊎_elim (λ (e : d ≡ x). e) (λ none. none_there x none) (here_or_later d x [] at)

  unlisted : (a b : Option StoredDefinition) → SameTables rows others (alone a) (alone b) → SameAnonymous rows others a b
  unlisted None None same = tt
  unlisted None (Some e) same = let found = same.other e (here e []) in none_there found.0 found.1
  unlisted (Some d) None same = let found = same.one d (here d []) in none_there found.0 found.1
  unlisted (Some d) (Some e) same =
      let found = same.one d (here d []) in
      ⊎_elim (λ (is : e ≡ found.0). subst (SameDefinition rows others d) (sym is) found.2) (λ none. none_there found.0 none) (here_or_later e found.0 [] found.1)

-- a kept definition has one of three roles
by_role : (P : Type 0) (r : Role) → (operation_role r ≡ false → fragment_role r ≡ true) → (anonymous_role r ≡ true → P) → (named_role r ≡ true → P) → (fragment_role r ≡ true → P) → P
by_role P anonymous_operation executable a n f = a refl
by_role P named_operation executable a n f = n refl
by_role P fragment executable a n f = f refl
by_role P type_system executable a n f = absurd (false≢true (executable refl))

-- kept definitions that can stand in tables, over one schema
module _ (m : Meaning) (ks js : List Kept) (ks-answered : AllByRecursion (KeptAsAnswered m) ks) (js-answered : AllByRecursion (KeptAsAnswered m) js) where
  same_stored : (k j : Kept) → Contains ks k → Contains js j → Same k j → SameAsStored k j
  same_stored k j k-at j-at same =
      (answers_follow m k j (all_there (KeptAsAnswered m) ks k ks-answered k-at) (all_there (KeptAsAnswered m) js j js-answered j-at)).0 same

  same_handed : (k j : Kept) → Contains ks k → Contains js j → SameAsStored k j → Same k j
  same_handed k j k-at j-at same =
      (answers_follow m k j (all_there (KeptAsAnswered m) ks k ks-answered k-at) (all_there (KeptAsAnswered m) js j js-answered j-at)).1 same

  -- tables of one role
  module _ (rows others : List StoredRow) (test : Role → Bool) (ds es : List StoredDefinition) (d-back : map (read_back rows) ds ≡ kept_as test ks) (e-back : map (read_back others) es ≡ kept_as test js) where
    abbrev of_ks : StoredDefinition → Kept
    of_ks d = read_back rows d

    abbrev of_js : StoredDefinition → Kept
    of_js e = read_back others e

    -- the kept definition of a stored one, and the stored one of a kept one
    kept_d : (d : StoredDefinition) → Contains ds d → Contains ks (of_ks d) × (test (role_of (of_ks d).head) ≡ true)
    kept_d d at = out_of_filter (λ k. test (role_of k.head)) ks (of_ks d) (subst (λ (l : List Kept). Contains l (of_ks d)) d-back (in_map of_ks ds d at))

    kept_e : (e : StoredDefinition) → Contains es e → Contains js (of_js e) × (test (role_of (of_js e).head) ≡ true)
    kept_e e at = out_of_filter (λ k. test (role_of k.head)) js (of_js e) (subst (λ (l : List Kept). Contains l (of_js e)) e-back (in_map of_js es e at))

    stored_k : (k : Kept) → Contains ks k → test (role_of k.head) ≡ true → (d : StoredDefinition) × Contains ds d × (of_ks d ≡ k)
    stored_k k at is = out_of_map of_ks ds k (subst (λ (l : List Kept). Contains l k) (sym d-back) (in_filter (λ x. test (role_of x.head)) ks k at is))

    stored_j : (j : Kept) → Contains js j → test (role_of j.head) ≡ true → (e : StoredDefinition) × Contains es e × (of_js e ≡ j)
    stored_j j at is = out_of_map of_js es j (subst (λ (l : List Kept). Contains l j) (sym e-back) (in_filter (λ x. test (role_of x.head)) js j at is))

    tables_from : EachIsSame ks js → SameTables rows others ds es
    tables_from each =
        record {
          one = λ d at.
              let k = kept_d d at in
              let j = each.one (of_ks d) k.0 in
              let role : test (role_of j.0.head) ≡ true = ap test (sym (same_role _ _ j.2.heads)) ∙ k.1 in
              let e = stored_j j.0 j.1 role in
              (e.0, e.1, forth rows others d e.0 (subst (SameAsStored (of_ks d)) (sym e.2) (same_stored (of_ks d) j.0 k.0 j.1 j.2)));
          other = λ e at.
              let j = kept_e e at in
              let k = each.other (of_js e) j.0 in
              let role : test (role_of k.0.head) ≡ true = ap test (same_role _ _ k.2.heads) ∙ j.1 in
              let d = stored_k k.0 k.1 role in
              (d.0, d.1, forth rows others d.0 e (subst (λ (x : Kept). SameAsStored x (of_js e)) (sym d.2) (same_stored k.0 (of_js e) k.1 j.0 k.2)));
        }

    one_from : SameTables rows others ds es → (k : Kept) → Contains ks k → test (role_of k.head) ≡ true → (j : Kept) × Contains js j × Same k j
    one_from same k at is =
        let d = stored_k k at is in
        let e = same.one d.0 d.1 in
        let j = kept_e e.0 e.1 in
        let stored = subst (λ (x : Kept). SameAsStored x (of_js e.0)) d.2 (back rows others d.0 e.0 e.2) in
        (of_js e.0, j.0, same_handed k (of_js e.0) at j.0 stored)

    other_from : SameTables rows others ds es → (j : Kept) → Contains js j → test (role_of j.head) ≡ true → (k : Kept) × Contains ks k × Same k j
    other_from same j at is =
        let e = stored_j j at is in
        let d = same.other e.0 e.1 in
        let k = kept_d d.0 d.1 in
        let stored = subst (SameAsStored (of_ks d.0)) e.2 (back rows others d.0 e.0 d.2) in
        (of_ks d.0, k.0, same_handed (of_ks d.0) j k.0 at stored)

  module _ (a b : StoredDocument) (x : ReadsBack ks a) (y : ReadsBack js b) where
    compared_from : EachIsSame ks js → SameDocuments a b
    compared_from each =
        record {
          anonymous = unlisted a.rows.now b.rows.now a.anonymous b.anonymous (tables_from a.rows.now b.rows.now anonymous_role (alone a.anonymous) (alone b.anonymous) x.anonymous y.anonymous each);
          operations = tables_from a.rows.now b.rows.now named_role a.operations.now b.operations.now x.operations y.operations each;
          fragments = tables_from a.rows.now b.rows.now fragment_role a.fragments.now b.fragments.now x.fragments y.fragments each;
        }

    compared_to : AllByRecursion Storable ks → AllByRecursion Storable js → SameDocuments a b → EachIsSame ks js
    compared_to storable apart same =
        let lone = listed a.rows.now b.rows.now a.anonymous b.anonymous same.anonymous in
        record {
          one = λ k at.
              by_role ((j : Kept) × Contains js j × Same k j) (role_of k.head) (all_there Storable ks k storable at).executable
              (one_from a.rows.now b.rows.now anonymous_role (alone a.anonymous) (alone b.anonymous) x.anonymous y.anonymous lone k at)
              (one_from a.rows.now b.rows.now named_role a.operations.now b.operations.now x.operations y.operations same.operations k at)
              (one_from a.rows.now b.rows.now fragment_role a.fragments.now b.fragments.now x.fragments y.fragments same.fragments k at);
          other = λ j at.
              by_role ((k : Kept) × Contains ks k × Same k j) (role_of j.head) (all_there Storable js j apart at).executable
              (other_from a.rows.now b.rows.now anonymous_role (alone a.anonymous) (alone b.anonymous) x.anonymous y.anonymous lone j at)
              (other_from a.rows.now b.rows.now named_role a.operations.now b.operations.now x.operations y.operations same.operations j at)
              (other_from a.rows.now b.rows.now fragment_role a.fragments.now b.fragments.now x.fragments y.fragments same.fragments j at);
        }

pub tables_compare : TablesCompare
tables_compare m ds es sound fine a b holds keeps =
    let ks = kept_in m ds in
    let js = kept_in m es in
    let storable = kept_is_storable m ds sound in
    let apart = kept_is_storable m es fine in
    let x = tables_read_back ks a storable holds in
    let y = tables_read_back js b apart keeps in (
      compared_to m ks js (kept_is_answered m ds) (kept_is_answered m es) a b x y storable.each apart.each,
      compared_from m ks js (kept_is_answered m ds) (kept_is_answered m es) a b x y,
    )

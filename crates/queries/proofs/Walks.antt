-- The walks of the eight queries.
use Rattle.std.proofs.Common.{◌≡◌, refl, ℕ, zero, suc, true, false, List, [], ◌∷◌, length, Option, arith}
use Rattle.stored_tables.specs.declared.stored.StoredDocument.{StoredDocument}
use Rattle.walking.specs.Walk.{done, field, enter, pass, Fresh}
use Rattle.selection_rules.specs.declared.stored.StoredRow.{StoredRow}
use Rattle.stored_tables.specs.declared.definition.StoredDefinition.{StoredDefinition}
use Rattle.queries.specs.Query.{Query, Walked, EachWalked, walked_from}
use Rattle.queries.specs.Queries.{spread_twice, beneath_an_enum, unknown_field, anonymous_thrice, another_type, no_root, beside_a_named_one, unknown_condition}

-- tables with these contents, wherever they stand
abbrev tables : (ℕ × ℕ) → (ℕ × ℕ) → (ℕ × ℕ) → Option StoredDefinition → List StoredDefinition → List StoredDefinition → List StoredRow → StoredDocument
tables p r s anonymous operations fragments rows =
    record {
      anonymous = anonymous;
      operations = record { ref_ptr = p; now = operations };
      fragments = record { ref_ptr = r; now = fragments };
      rows = record { ref_ptr = s; now = rows };
    }

-- a query is walked if it is in the tables that are made of it
walked : (q : Query) → ((p r s : ℕ × ℕ) → EachWalked (tables p r s q.anonymous q.operations q.fragments q.selections) (walked_from q.anonymous q.operations) q.walks) → Walked q
walked q each d h =
    let inside : EachWalked (tables d.operations.ref_ptr d.fragments.ref_ptr d.rows.ref_ptr d.anonymous d.operations.now d.fragments.now d.rows.now) (walked_from q.anonymous q.operations) q.walks =
    rw (h.anonymous, h.operations, h.fragments, h.selections) (each d.operations.ref_ptr d.fragments.ref_ptr d.rows.ref_ptr) in
    inside

no_field : false ≡ true → ⊥
no_field wrong = absurd (grind arith)

-- the only fragment was entered before
again : {d : StoredDocument} {i : ℕ} → length d.fragments.now ≡ 1 → (f : ℕ) → Fresh d (1 ∷ []) i f → ⊥
again one zero x = absurd (grind (arith, x.unmarked))
again one (suc f) x = absurd (omega (arith, x.names.there, one))

pub walks_of_spread_twice : Walked spread_twice
walks_of_spread_twice = walked _ (λ p r s. (record { after = _; walk = enter 0 (omega arith) (record { names = record { spread = refl; there = omega arith; named = refl }; unmarked = refl }) (field (omega arith) refl (pass (omega arith) no_field (again refl) (done (omega arith)))) (pass (omega arith) no_field (again refl) (done (omega arith))) }, tt))

pub walks_of_beneath_an_enum : Walked beneath_an_enum
walks_of_beneath_an_enum = walked _ (λ p r s. (record { after = _; walk = done (omega arith) }, tt))

pub walks_of_unknown_field : Walked unknown_field
walks_of_unknown_field = walked _ (λ p r s. (record { after = _; walk = field (omega arith) refl (field (omega arith) refl (done (omega arith))) }, tt))

pub walks_of_anonymous_thrice : Walked anonymous_thrice
walks_of_anonymous_thrice = walked _ (λ p r s. (record { after = _; walk = field (omega arith) refl (done (omega arith)) }, tt))

pub walks_of_another_type : Walked another_type
walks_of_another_type = walked _ (λ p r s. (record { after = _; walk = field (omega arith) refl (pass (omega arith) no_field (λ f x. no_field x.names.spread) (field (omega arith) refl (done (omega arith)))) }, tt))

pub walks_of_no_root : Walked no_root
walks_of_no_root = walked _ (λ p r s. (record { after = _; walk = field (omega arith) refl (done (omega arith)) }, tt))

pub walks_of_beside_a_named_one : Walked beside_a_named_one
walks_of_beside_a_named_one = walked _ (λ p r s. (record { after = _; walk = field (omega arith) refl (done (omega arith)) }, (record { after = _; walk = field (omega arith) refl (done (omega arith)) }, tt)))

pub walks_of_unknown_condition : Walked unknown_condition
walks_of_unknown_condition = walked _ (λ p r s. tt)

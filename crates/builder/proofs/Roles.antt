-- The role of a definition, by its kind and its name.
use Rattle.std.proofs.Common.{◌≡◌, ℕ, Bool, true, false, cond, eqb, Some, None, refl, ◌∙◌, arith}
use Rattle.std.proofs.lemmas.Bool.{eqb-true, eq-eqb, ne_eqb, cond-true, cond-false}
use Rattle.document.specs.declared.kinds.DefinitionKind.TheVariants.{Operation, Fragment, TypeSystem}
use Rattle.document.specs.Kinds.{definition_kind}
use Rattle.document.specs.Rows.{Head}
use Rattle.building_rules.specs.Definitions.{anonymous_operation, named_operation, fragment, role_of}

module _ (h : Head) where
  pub operation_role : h.kind ≡ 1 → role_of h ≡ cond (eqb h.name 0) anonymous_operation named_operation
  operation_role kind = cond-true _ _ _ (eq-eqb h.kind 1 kind)

  pub anonymous_role : h.kind ≡ 1 → h.name ≡ 0 → role_of h ≡ anonymous_operation
  anonymous_role kind name = operation_role kind ∙ cond-true _ _ _ (eq-eqb h.name 0 name)

  pub named_role : h.kind ≡ 1 → (h.name ≡ 0 → ⊥) → role_of h ≡ named_operation
  named_role kind name = operation_role kind ∙ cond-false _ _ _ (ne_eqb h.name 0 name)

  pub fragment_role : h.kind ≡ 2 → role_of h ≡ fragment
  fragment_role kind = cond-false _ _ _ (ne_eqb h.kind 1 (λ e. omega arith)) ∙ cond-true _ _ _ (eq-eqb h.kind 2 kind)

-- what the number of a row is, by its kind

operation_so : (a b c : Bool) → cond a (Some Operation) (cond b (Some Fragment) (cond c (Some TypeSystem) None)) ≡ Some Operation → a ≡ true
operation_so true b c is = refl
operation_so false true c is = let z : ◌≡◌ {A = ℕ} 0 1 = cc in absurd (omega arith)
operation_so false false true is = let z : ◌≡◌ {A = ℕ} 0 1 = cc in absurd (omega arith)
operation_so false false false is = let z : ◌≡◌ {A = ℕ} 0 1 = cc in absurd (omega arith)

fragment_so : (a b c : Bool) → cond a (Some Operation) (cond b (Some Fragment) (cond c (Some TypeSystem) None)) ≡ Some Fragment → b ≡ true
fragment_so true b c is = let z : ◌≡◌ {A = ℕ} 0 1 = cc in absurd (omega arith)
fragment_so false true c is = refl
fragment_so false false true is = let z : ◌≡◌ {A = ℕ} 0 1 = cc in absurd (omega arith)
fragment_so false false false is = let z : ◌≡◌ {A = ℕ} 0 1 = cc in absurd (omega arith)

pub operation_number : (k : ℕ) → definition_kind k ≡ Some Operation → k ≡ 1
operation_number k is = eqb-true k 1 (operation_so (eqb k 1) (eqb k 2) _ is)

pub fragment_number : (k : ℕ) → definition_kind k ≡ Some Fragment → k ≡ 2
fragment_number k is = eqb-true k 2 (fragment_so (eqb k 1) (eqb k 2) _ is)

-- What it says of stored tables that they have no fault: the anonymous operation is whole, the ranges of each table follow one
-- another, and each row is in one range and fits there.
use Rattle.std.proofs.Common.{◌≡◌, ℕ, ◌<◌, Bool, true, false, cond, List, map, length, count_by, Some, None, Option, refl, ap, ◌∙◌, eqb-true, arith}
use Rattle.std.proofs.lemmas.Bool.{or_parts, not-false}
use Rattle.refusal.proofs.Firsts.{or_else_none}
use Rattle.document.specs.declared.kinds.DefinitionKind.TheVariants.{Operation, Fragment}
use Rattle.selection_rules.specs.declared.stored.StoredRow.{StoredRow}
use Rattle.selection_rules.specs.Stored.{stored_view}
use Rattle.stored_tables.specs.declared.definition.StoredDefinition.{StoredDefinition}
use Rattle.stored_tables.specs.declared.fault.StoredFault.{StoredFault}
use Rattle.stored_tables.specs.declared.fault.StoredFault.TheVariants.{InAnonymous, InOperations, InFragments, InRows}
use Rattle.stored_tables.specs.Verdict.{whole_as, anonymous_broken, holds, stray, unfit_in, broken_row, all_stored, told_in, stored_fault}
use Rattle.stored_tables.specs.Ranges.{InOrder}
use Rattle.stored_tables.proofs.Places.{no_place}
use Rattle.stored_tables.proofs.Following.{clean_in_order}

none_if : (b : Bool) (f : StoredFault) → cond b (Some f) None ≡ None → b ≡ false
none_if true f is = absurd (grind arith)
none_if false f is = refl

none_told : (told : ℕ → StoredFault) (place : Option ℕ) → told_in told place ≡ None → place ≡ None
none_told told None is = refl
none_told told (Some i) is = absurd (grind arith)

pub record Faultless (one : Option StoredDefinition) (named spread : List StoredDefinition) (rows : List StoredRow) : Type 0 where
  pub anonymous : anonymous_broken (length rows) one ≡ false
  pub operations : InOrder (length rows) 0 named
  pub fragments : InOrder (length rows) 0 spread
  pub each : (row : ℕ) → row < length rows → broken_row (map stored_view rows) (all_stored one named spread) row ≡ false

module _ (one : Option StoredDefinition) (named spread : List StoredDefinition) (rows : List StoredRow) where
  pub faultless : stored_fault one named spread rows ≡ None → Faultless one named spread rows
  faultless clean =
      let a = or_else_none _ _ clean in
      let b = or_else_none _ _ a.1 in
      let c = or_else_none _ _ b.1 in
      let test = broken_row (map stored_view rows) (all_stored one named spread) in
      record {
        anonymous = none_if _ InAnonymous a.0;
        operations = clean_in_order (whole_as Operation) (length rows) named (none_told InOperations _ b.0);
        fragments = clean_in_order (whole_as Fragment) (length rows) spread (none_told InFragments _ c.0);
        each = λ row low. ap test (omega arith) ∙ no_place test 0 (length rows) (none_told InRows _ c.1) row low;
      }

  module _ (whole : Faultless one named spread rows) (row : ℕ) (low : row < length rows) where
    abbrev parts : (stray (all_stored one named spread) row ≡ false) × (unfit_in (map stored_view rows) (all_stored one named spread) row ≡ false)
    parts = or_parts _ _ (whole.each row low)

    -- each row is in one range
    pub in_one : count_by (holds row) (all_stored one named spread) ≡ 1
    in_one = eqb-true _ 1 (not-false _ parts.0)

    -- and fits there
    pub fitting : unfit_in (map stored_view rows) (all_stored one named spread) row ≡ false
    fitting = parts.1

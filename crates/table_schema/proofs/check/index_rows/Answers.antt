-- Slots that are lent empty index no row, and a refusal leaves them so.
use Rattle.std.proofs.Common.{◌≡◌, true, Ok, Err, Result, MatchResult, sym, refl, ◌∙◌}
use Rattle.std.specs.Result.{is_err}
use Rattle.std.proofs.lemmas.Bool.{false≢true}
use Rattle.ordered_index.specs.Keys.{same_name, name_hash, same_field, field_hash}
use Rattle.table_schema.proofs.Steps.{fresh, emptied}
use Rattle.table_schema.proofs.check.index_rows.Goals as goal

pub index_tables-verdict-requires-clause-fresh_types : goal.index_tables-verdict-requires-clause-fresh_types
index_tables-verdict-requires-clause-fresh_types c =
    fresh same_name name_hash c.args.type_slots.now 2048 11 refl (sym c.if-not-is_empty_index.ensures)

pub index_tables-verdict-requires-clause-fresh_fields : goal.index_tables-verdict-requires-clause-fresh_fields
index_tables-verdict-requires-clause-fresh_fields c =
    fresh same_field field_hash c.args.field_slots.now 8192 13 refl (sym c.if-not-is_empty_index-2.ensures)

at_err : {V E : Type 0} (P Q : Type 0) (r : Result V E) → is_err r ≡ true → Q → MatchResult r (λ _. P) (λ _. Q)
at_err P Q (Ok v) is q = absurd (false≢true is)
at_err P Q (Err e) is q = q

pub returns-then-is_err-clause-slots : goal.returns-then-is_err-clause-slots
returns-then-is_err-clause-slots c =
    at_err _ _ c.index_tables-verdict.result (sym c.is_err.ensures.value ∙ c.if-is_err.true) (
      emptied c.args.type_slots.now c.empty.new.slots 2048 _ (sym c.if-not-is_empty_index.ensures) c.index_tables-verdict.auto.type_slots c.empty.ensures.clear,
      emptied c.args.field_slots.now c.empty-then-is_err.new.slots 8192 _ (sym c.if-not-is_empty_index-2.ensures) c.index_tables-verdict.auto.field_slots c.empty-then-is_err.ensures.clear,
    )

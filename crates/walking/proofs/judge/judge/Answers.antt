-- The checks come in the order of the refusals.
use Rattle.std.proofs.Common.{◌≡◌, ℕ, false, Some, None, Option, sym}
use Rattle.std.specs.Option.{ok_or}
use Rattle.std.specs.Result.{MatchResult}
use Rattle.std.proofs.lemmas.Result.{err_from_is_err_and}
use Rattle.std.proofs.lemmas.Bool.{both_ways}
use Rattle.refusal.proofs.Firsts.{verdict_ok, verdict_err}
use Rattle.finished_tables.specs.declared.indexed.IndexedDocument.{IndexedDocument}
use Rattle.finished_tables.specs.Indexes.{HasIndexes}
use Rattle.stored_tables.specs.declared.definition.StoredDefinition.{StoredDefinition}
use Rattle.stored_tables.specs.Verdict.{fault_of}
use Rattle.walking.specs.declared.judge.Lengths.{Lengths}
use Rattle.walking.specs.declared.fault.WalkFault.TheVariants.{NoOperation}
use Rattle.walking.specs.Refusals.{Accepted, Refused, too_short, operation_at, short, faulty, unfit, absent}
use Rattle.walking.proofs.judge.judge.Goals as goal

pub returns-then-are_short : goal.returns-then-are_short
returns-then-are_short c = short (sym c.if-are_short.ensures)

pub returns-in_err-check : goal.returns-in_err-check
returns-in_err-check c =
    let p = err_from_is_err_and c.from_residual.result c.from_residual.ensures.1 in
    rw (p.1, p.2) (faulty _ (sym c.if-are_short.ensures) (verdict_err _ _ (sym c.in_err-check.ensures)))

pub returns-then-not-has_indexes : goal.returns-then-not-has_indexes
returns-then-not-has_indexes c =
    unfit (sym c.if-are_short.ensures) (verdict_ok _ (sym c.in_ok-check.ensures)) (λ indexed. both_ways _ c.if-not-has_indexes.true (c.has_indexes.ensures.1 indexed))

-- the operation, where it is there
operation_or : (d : IndexedDocument) (operation : ℕ) (lent : Lengths) (found : Option StoredDefinition) → too_short d.stored lent ≡ false → fault_of d.stored ≡ None → HasIndexes d
    → found ≡ operation_at d.stored operation → MatchResult (ok_or found NoOperation) (Accepted d operation lent) (Refused d operation lent)
operation_or d operation lent None long clean indexed is = absent long clean indexed (sym is)
operation_or d operation lent (Some s) long clean indexed is = record { long = long; clean = clean; indexed = indexed; there = sym is }

pub returns : goal.returns
returns c =
    rw c.ok_or.ensures.value (operation_or c.args.document.now c.args.operation c.args.lent c.operation_at.result (sym c.if-are_short.ensures) (verdict_ok _ (sym c.in_ok-check.ensures))
    (c.has_indexes.ensures.0 c.if-not-has_indexes.false) c.operation_at.ensures)

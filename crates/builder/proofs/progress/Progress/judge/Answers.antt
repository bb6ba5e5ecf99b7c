-- The checks come in the order of the refusals.
use Rattle.std.proofs.Common.{true, false, sym}
use Rattle.std.proofs.lemmas.Result.{err_from_is_err_and}
use Rattle.std.proofs.lemmas.Bool.{both_ways, not-true, not-false}
use Rattle.refusal.proofs.Firsts.{verdict_ok, verdict_err}
use Rattle.builder.specs.Adding.{faulty, unfit, full, added}
use Rattle.builder.proofs.Judging.{by_sizes, by_length, by_stored, by_layout, same_stored, no_fault, same_needs, all_ready}
use Rattle.builder.proofs.progress.Progress.judge.Goals as goal

pub returns-in_err-check_sizes-clause-answer : goal.returns-in_err-check_sizes-clause-answer
returns-in_err-check_sizes-clause-answer c =
    let p = err_from_is_err_and c.from_residual.result c.from_residual.ensures.1 in
    rw (p.1, p.2) (faulty _ (by_sizes _ _ _ _ _ (verdict_err _ _ (sym c.in_err-check_sizes.ensures))))

pub returns-then-is_too_long-clause-answer : goal.returns-then-is_too_long-clause-answer
returns-then-is_too_long-clause-answer c =
    faulty _ (by_length _ _ _ _ (verdict_ok _ (sym c.in_ok-check_sizes.ensures)) (sym c.if-is_too_long.ensures))

pub returns-in_err-check-clause-answer : goal.returns-in_err-check-clause-answer
returns-in_err-check-clause-answer c =
    let p = err_from_is_err_and c.from_residual-in_err-check.result c.from_residual-in_err-check.ensures.1 in
    let s = c.stored.ensures in
    let stored = same_stored _ s.anonymous s.operations s.fragments s.rows (verdict_err _ _ (sym c.in_err-check.ensures)) in
    rw (p.1, p.2) (faulty _ (by_stored _ _ _ _ _ (verdict_ok _ (sym c.in_ok-check_sizes.ensures)) (sym c.if-is_too_long.ensures) stored))

pub returns-in_err-needs-clause-answer : goal.returns-in_err-needs-clause-answer
returns-in_err-needs-clause-answer c =
    let p = err_from_is_err_and c.from_residual-in_err-needs.result c.from_residual-in_err-needs.ensures.1 in
    let s = c.stored.ensures in
    let stored = same_stored _ s.anonymous s.operations s.fragments s.rows (verdict_ok _ (sym c.in_ok-check.ensures)) in
    rw (p.1, p.2) (faulty _ (by_layout _ _ _ _ _ (verdict_ok _ (sym c.in_ok-check_sizes.ensures)) (sym c.if-is_too_long.ensures) stored (sym c.in_err-needs.ensures.verdict)))

pub returns-then-not-is_indexed-clause-answer : goal.returns-then-not-is_indexed-clause-answer
returns-then-not-is_indexed-clause-answer c =
    let s = c.stored.ensures in
    let stored = same_stored _ s.anonymous s.operations s.fragments s.rows (verdict_ok _ (sym c.in_ok-check.ensures)) in
    let clean = no_fault _ _ _ _ (verdict_ok _ (sym c.in_ok-check_sizes.ensures)) (sym c.if-is_too_long.ensures) stored c.in_ok-needs.ensures.verdict in
    unfit clean (λ indexed. both_ways _ c.if-not-is_indexed.true (c.is_indexed.ensures.1 indexed))

pub returns-then-not-has_room-clause-answer : goal.returns-then-not-has_room-clause-answer
returns-then-not-has_room-clause-answer c =
    let s = c.stored.ensures in
    let stored = same_stored _ s.anonymous s.operations s.fragments s.rows (verdict_ok _ (sym c.in_ok-check.ensures)) in
    let clean = no_fault _ _ _ _ (verdict_ok _ (sym c.in_ok-check_sizes.ensures)) (sym c.if-is_too_long.ensures) stored c.in_ok-needs.ensures.verdict in
    let needs = c.in_ok-needs.ensures.needs in
    full clean (c.is_indexed.ensures.0 c.if-not-is_indexed.false) (same_needs c.args.self.now c.args.tables.now _ _ _ _ true needs.1 needs.2 (not-false _ (sym c.if-not-has_room.ensures)))

pub returns-clause-answer : goal.returns-clause-answer
returns-clause-answer c =
    let s = c.stored.ensures in
    let stored = same_stored _ s.anonymous s.operations s.fragments s.rows (verdict_ok _ (sym c.in_ok-check.ensures)) in
    let clean = no_fault _ _ _ _ (verdict_ok _ (sym c.in_ok-check_sizes.ensures)) (sym c.if-is_too_long.ensures) stored c.in_ok-needs.ensures.verdict in
    let needs = c.in_ok-needs.ensures.needs in
    added clean (c.is_indexed.ensures.0 c.if-not-is_indexed.false) (same_needs c.args.self.now c.args.tables.now _ _ _ _ false needs.1 needs.2 (not-true _ (sym c.if-not-has_room.ensures)))

pub returns-clause-ready : goal.returns-clause-ready
returns-clause-ready c strict =
    let needs = c.in_ok-needs.ensures.needs in
    (needs.0, all_ready _ _ _ _ strict _ _ needs.1 needs.2 (sym c.if-is_too_long.ensures) (c.is_indexed.ensures.0 c.if-not-is_indexed.false) (not-true _ (sym c.if-not-has_room.ensures)))

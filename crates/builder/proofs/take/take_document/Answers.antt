-- Each turn takes in one definition.
use Rattle.std.proofs.Common.{arith}
use Rattle.builder.proofs.Going.{begin, here, ready, go_on, finish}
use Rattle.builder.proofs.take.take_document.Goals as goal

pub loop-place-init : goal.loop-place-init
loop-place-init g c = begin _ _ _ _ _ c.requires.ready.0 c.requires.ready.1

pub take_definition-next-requires : goal.take_definition-next-requires
take_definition-next-requires g c =
    let w = c.loop-place.invariant in
    let at = here (g.S.Schema.meaning c.args.schema.now) _ _ _ _ c.loop-place.place _ w c.loop-place-test.true in
    record { ready = (at.selected, ready _ _ _ _ _ c.loop-place.place _ w c.loop-place-test.true c.selections.result (c.selections.ensures.forest w.document w.is)) }

pub loop-place-preserved : goal.loop-place-preserved
loop-place-preserved g c =
    let w = c.loop-place.invariant in
    let at = here (g.S.Schema.meaning c.args.schema.now) _ _ _ _ c.loop-place.place _ w c.loop-place-test.true in
    let done = c.take_definition-next.ensures in
    go_on _ _ _ _ _ c.loop-place.place _ w c.loop-place-test.true _ (done.taken at.selected (c.selections.ensures.forest w.document w.is)) done.operations done.fragments

pub returns-clause-taken : goal.returns-clause-taken
returns-clause-taken g c d is = finish _ _ _ _ _ c.loop-place.place _ c.loop-place.invariant (omega (arith, c.loop-place-test.false)) d is

pub returns-clause-operations : goal.returns-clause-operations
returns-clause-operations g c = c.loop-place.invariant.operations

pub returns-clause-fragments : goal.returns-clause-fragments
returns-clause-fragments g c = c.loop-place.invariant.fragments

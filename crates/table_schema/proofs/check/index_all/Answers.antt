-- Each turn judges one row and enters its key.
use Rattle.std.proofs.Common.{◌+◌, ◌-◌, List, length, [], ◌∷◌, ◌++◌, Err, sym, ap, ◌∙◌, subst, arith}
use Rattle.ordered_index.specs.Sound.{Sound, keys_of}
use Rattle.ordered_index.proofs.Firsts.{keys_more}
use Rattle.refusal.specs.Firsts.{verdict_of}
use Rattle.refusal.proofs.Firsts.{fault_next, fault_here, verdict_ok, verdict_err}
use Rattle.table_schema.specs.Verdict.{fault_at}
use Rattle.table_schema.proofs.Turns.{judged}
use Rattle.table_schema.proofs.check.index_all.Goals as goal

pub returns-in-Err-clause-fault : goal.returns-in-Err-clause-fault
returns-in-Err-clause-fault g c =
    let rows = c.args.rows.now in
    let wrong = g.R.SchemaRow.fault_behind c.args.beside.now in
    let i = c.loop-i.i in
    let verdict = judged g.R.Entry.keyed g.R.Of.PartialEq.eq wrong rows i c.index-rows-i.result c.key.result c.enter_new-came.result c.judge.result
    c.loop-i-test.true c.index-rows-i.is c.key.ensures c.enter_new-came.ensures.came c.judge.ensures.fault in
    let fault = verdict_err (fault_at wrong rows i) c.in-Err.fault (sym verdict ∙ c.in-Err.is) in
    let here = fault_here g.R.SchemaRow.told_as (fault_at wrong rows) i (length rows - i) (length rows - (i + 1)) c.in-Err.fault (omega arith) fault in
    ap Err c.told.ensures ∙ ap verdict_of (sym here ∙ c.loop-i.invariant.1)

pub loop-i-preserved : goal.loop-i-preserved
loop-i-preserved g c =
    let rows = c.args.rows.now in
    let wrong = g.R.SchemaRow.fault_behind c.args.beside.now in
    let i = c.loop-i.i in
    let row = c.index-rows-i.result in
    let verdict = judged g.R.Entry.keyed g.R.Of.PartialEq.eq wrong rows i row c.key.result c.enter_new-came.result c.judge.result
    c.loop-i-test.true c.index-rows-i.is c.key.ensures c.enter_new-came.ensures.came c.judge.ensures.fault in
    let fine = verdict_ok (fault_at wrong rows i) (sym verdict ∙ c.in_default.is) in
    let entered = ap (λ k. keys_of g.R.Entry.keyed i rows ++ k ∷ []) (c.key.ensures ∙ ap g.R.Entry.keyed c.index-rows-i.is) ∙ keys_more g.R.Entry.keyed rows i row c.loop-i-test.true in (
      subst (λ (keys : List g.row.R-Of.Denot). Sound g.R.Of.PartialEq.eq g.R.Of.Key.digest keys c.enter_new-came.new.slots) entered (c.enter_new-came.ensures.sound c.in_default.ensures.once),
      sym (fault_next g.R.SchemaRow.told_as (fault_at wrong rows) i (length rows - i) (length rows - (i + 1)) (omega arith) fine) ∙ c.loop-i.invariant.1,
    )

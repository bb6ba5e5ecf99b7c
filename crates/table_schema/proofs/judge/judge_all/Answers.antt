-- Each turn judges one row, by what stands before it.
use Rattle.std.proofs.Common.{◌+◌, ◌-◌, length, is_some, Err, sym, ap, ◌∙◌, arith}
use Rattle.refusal.specs.Firsts.{verdict_of}
use Rattle.refusal.proofs.Firsts.{fault_next, fault_here, verdict_ok, verdict_err}
use Rattle.table_schema.specs.Verdict.{fault_at}
use Rattle.table_schema.proofs.Turns.{judged}
use Rattle.table_schema.proofs.judge.judge_all.Goals as goal

pub returns-in-Err : goal.returns-in-Err
returns-in-Err g c =
    let rows = c.args.rows.now in
    let wrong = g.R.SchemaRow.fault_behind c.args.beside.now in
    let i = c.loop-i.i in
    let verdict = judged g.R.Entry.keyed g.R.Of.PartialEq.eq wrong rows i c.index-rows-i.result c.key.result c.is_some-came.result c.judge.result
    c.loop-i-test.true c.index-rows-i.is c.key.ensures (c.is_some-came.ensures ∙ ap is_some c.look_through.ensures) c.judge.ensures.fault in
    let fault = verdict_err (fault_at wrong rows i) c.in-Err.fault (sym verdict ∙ c.in-Err.is) in
    let here = fault_here g.R.SchemaRow.told_as (fault_at wrong rows) i (length rows - i) (length rows - (i + 1)) c.in-Err.fault (omega arith) fault in
    ap Err c.told.ensures ∙ ap verdict_of (sym here ∙ c.loop-i.invariant)

pub loop-i-preserved : goal.loop-i-preserved
loop-i-preserved g c =
    let rows = c.args.rows.now in
    let wrong = g.R.SchemaRow.fault_behind c.args.beside.now in
    let i = c.loop-i.i in
    let verdict = judged g.R.Entry.keyed g.R.Of.PartialEq.eq wrong rows i c.index-rows-i.result c.key.result c.is_some-came.result c.judge.result
    c.loop-i-test.true c.index-rows-i.is c.key.ensures (c.is_some-came.ensures ∙ ap is_some c.look_through.ensures) c.judge.ensures.fault in
    let fine = verdict_ok (fault_at wrong rows i) (sym verdict ∙ c.in_default.is) in
    sym (fault_next g.R.SchemaRow.told_as (fault_at wrong rows) i (length rows - i) (length rows - (i + 1)) (omega arith) fine) ∙ c.loop-i.invariant

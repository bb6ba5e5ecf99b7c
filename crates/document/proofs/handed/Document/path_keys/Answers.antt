-- Each turn adds the keys of one definition, without overflow.
use Rattle.std.proofs.Common.{arith}
use Rattle.document.proofs.Keys.{keys_at, keys_past}
use Rattle.document.proofs.handed.Document.path_keys.Goals as goal

pub path_keys_in_set-total-requires-clause-few : goal.path_keys_in_set-total-requires-clause-few
path_keys_in_set-total-requires-clause-few c = c.requires.1.short

pub path_keys_in_set-total-requires-clause-stands : goal.path_keys_in_set-total-requires-clause-stands
path_keys_in_set-total-requires-clause-stands c =
    let here = keys_at c.args.self.now.rows.now _ c.requires.0 _ _ c.requires.1 c.loop-row-test.true c.selections.ensures in
    (_, here.holds, here.shallow)

pub overflow_add-total : goal.overflow_add-total
overflow_add-total c =
    let here = keys_at c.args.self.now.rows.now _ c.requires.0 _ _ c.requires.1 c.loop-row-test.true c.selections.ensures in
    omega (arith, here.more, here.few, c.path_keys_in_set-total.ensures _ here.holds, c.loop-row.invariant _ c.requires.1)

pub loop-row-preserved : goal.loop-row-preserved
loop-row-preserved c d is =
    let here = keys_at c.args.self.now.rows.now _ d _ _ is c.loop-row-test.true c.selections.ensures in
    omega (arith, here.more, c.path_keys_in_set-total.ensures _ here.holds, c.loop-row.invariant d is)

pub returns : goal.returns
returns c d is = omega (arith, keys_past c.args.self.now.rows.now _ d _ is c.loop-row-test.false, c.loop-row.invariant d is)

-- Each turn looks at the range of one definition.
use Rattle.std.proofs.Common.{map, length}
use Rattle.std.proofs.lemmas.List.{drop_all}
use Rattle.selection_rules.specs.Stored.{stored_view}
use Rattle.stored_tables.proofs.Misfits.{looked_at, looked_through, order_at}
use Rattle.stored_tables.proofs.stored.StoredDocument.first_misfit.Goals as goal

pub misfit_in-requires : goal.misfit_in-requires
misfit_in-requires c = (order_at (map stored_view c.args.self.now.rows.now) (length c.args.self.now.rows.now) c.loop-definition.definition-index c.args.definitions.now c.loop-definition-test.true c.loop-definition.invariant.0).0

pub loop-definition-preserved : goal.loop-definition-preserved
loop-definition-preserved c =
    let views = map stored_view c.args.self.now.rows.now in
    let n = length c.args.self.now.rows.now in
    let i = c.loop-definition.definition-index in
    let ds = c.args.definitions.now in (
      (order_at views n i ds c.loop-definition-test.true c.loop-definition.invariant.0).1,
      looked_at views n i ds c.loop-definition.first c.misfit_in.result c.earlier-first.result _ c.loop-definition-test.true c.misfit_in.ensures c.earlier-first.ensures c.loop-definition.invariant.1,
    )

pub returns : goal.returns
returns c =
    let views = map stored_view c.args.self.now.rows.now in
    let n = length c.args.self.now.rows.now in
    looked_through views n c.loop-definition.definition-index c.args.definitions.now c.loop-definition.first _ (drop_all c.loop-definition.definition-index c.args.definitions.now c.loop-definition-test.false) c.loop-definition.invariant.1

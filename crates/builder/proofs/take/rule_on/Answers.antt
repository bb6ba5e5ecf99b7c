-- What the rules read of the definitions in use is what they read of the tables.
use Rattle.std.proofs.Common.{refl, subst}
use Rattle.document.specs.Rows.{head_of}
use Rattle.building_rules.specs.Definitions.{State}
use Rattle.builder.specs.Ruling.{Ruled}
use Rattle.builder.proofs.Taken.{taken_in_use}
use Rattle.builder.proofs.Kepts.{same_state}
use Rattle.builder.proofs.take.rule_on.Goals as goal

pub returns : goal.returns
returns g c =
    subst (λ (x : State). Ruled (g.S.Schema.meaning c.args.schema.now) x (head_of c.args.row.now) c.args.strict c.rule.result)
    (same_state refl refl
    (taken_in_use c.args.operations.now c.args.progress.operations c.in_use.result.now c.requires.operations.fits c.in_use.ensures)
    (taken_in_use c.args.fragments.now c.args.progress.fragments c.in_use-2.result.now c.requires.fragments.fits c.in_use-2.ensures))
    c.rule.ensures

-- A power of two is a number with one bit.
use Rattle.std.proofs.Common.{sym, ◌∙◌}
use lib.Count.{ones}
use Rattle.std.proofs.lemmas.Bool.{eqb-true, eq-eqb}
use Rattle.ordered_index.proofs.Powers.{one_set, power_set}
use Rattle.ordered_index.proofs.check.power_of_two.Goals as goal

pub returns : goal.returns
returns c =
    let n = c.args.n in
    let is = c.is_power_of_two.ensures in
    (λ yes. one_set n (eqb-true (ones n) 1 (sym is ∙ yes)), λ p. is ∙ eq-eqb (ones n) 1 (power_set n p))

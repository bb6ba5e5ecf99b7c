-- Each turn is one round more.
use Rattle.std.proofs.Common.{◌≡◌, ℕ, suc, ◌+◌, ◌-◌, refl, subst, arith}
use Rattle.timing.specs.Rounds.{After}
use Rattle.timing.proofs.go_round.Given as given
use Rattle.timing.proofs.go_round.Goals as goal

pub loop-turn-init : goal.loop-turn-init
loop-turn-init g c last after =
    let all : c.args.count - 0 ≡ c.args.count = omega arith in
    subst (λ (n : ℕ). After (given.F-post g c.args.round) n 0 last) all after

pub loop-turn-preserved : goal.loop-turn-preserved
loop-turn-preserved g c last after =
    let more : suc (c.args.count - (c.loop-turn.turn + 1)) ≡ c.args.count - c.loop-turn.turn = omega (arith, c.loop-turn-test.true) in
    c.loop-turn.invariant last (subst (λ (n : ℕ). After (given.F-post g c.args.round) n c.loop-turn.sum last) more (c.round-sum.result, c.round-sum.ensures, after))

pub returns : goal.returns
returns g c =
    let none : 0 ≡ c.args.count - c.loop-turn.turn = omega (arith, c.loop-turn-test.false) in
    c.loop-turn.invariant c.loop-turn.sum (subst (λ (n : ℕ). After (given.F-post g c.args.round) n c.loop-turn.sum c.loop-turn.sum) none refl)

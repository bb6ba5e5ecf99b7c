-- Each step adds the keys of one selection and of those beneath it, without overflow.
use Rattle.std.proofs.Common.{◌≡◌, ◌+◌, sym, ap, ◌∙◌, arith}
use Rattle.document.specs.Needs.{forest_keys}
use Rattle.document.proofs.Keys.{same_set, turned, set_keys, no_keys}
use Rattle.document.proofs.handed.Document.+path_keys_in_set.Goals as goal
use Rattle.document.proofs.handed.Document.+path_keys_in_set.Goals.{then-not-is_empty, else-not-is_empty}

pub loop-step-init : goal.loop-step-init
loop-step-init t c =
    let f = c.requires.stands in
    let rows = c.args.self.now.rows.now in (
      f.0,
      f.1,
      f.2,
      λ g holds. let same = ap (forest_keys c.args.above) (same_set rows c.args.set f.0 g f.1 holds) in omega arith,
      omega arith,
      omega arith,
    )

pub overflow_add-total : goal.overflow_add-total
overflow_add-total t c =
    let inv = c.loop-step.invariant in
    let rows = c.args.self.now.rows.now in
    let turn = turned rows c.loop-step.rest c.loop-step.around inv.0 c.in-Some.step c.fields_beneath-beneath.result inv.1 inv.2 c.in-Some.ensures.step c.fields_beneath-beneath.ensures in
    let f = c.requires.stands in
    let few = set_keys rows c.args.set c.args.above f.0 c.requires.few f.1 f.2 in
    let all = inv.3 f.0 f.1 in
    omega (arith, turn.sums)

pub overflow_add-total-then-not-is_empty : goal.overflow_add-total-then-not-is_empty
overflow_add-total-then-not-is_empty t c =
    let inv = c.loop-step.invariant in
    let rows = c.args.self.now.rows.now in
    let turn = turned rows c.loop-step.rest c.loop-step.around inv.0 c.in-Some.step c.fields_beneath-beneath.result inv.1 inv.2 c.in-Some.ensures.step c.fields_beneath-beneath.ensures in
    let sub = c.path_keys_in_set-total.ensures turn.below turn.beneath in
    let f = c.requires.stands in
    let few = set_keys rows c.args.set c.args.above f.0 c.requires.few f.1 f.2 in
    let all = inv.3 f.0 f.1 in
    omega (arith, turn.sums)

pub loop-step-preserved : goal.loop-step-preserved
loop-step-preserved t c =
    let inv = c.loop-step.invariant in
    let rows = c.args.self.now.rows.now in
    let w = c.fields_beneath-beneath.result in
    let turn = turned rows c.loop-step.rest c.loop-step.around inv.0 c.in-Some.step w inv.1 inv.2 c.in-Some.ensures.step c.fields_beneath-beneath.ensures in
    let added : c.if-not-is_empty.total ≡ c.loop-step.total + (w + forest_keys w turn.below) =
    elim c.if-not-is_empty.branch [
      | then-not-is_empty b ↦ let sub = b.path_keys_in_set-total.ensures turn.below turn.beneath in omega (arith, b.total-is)
      | else-not-is_empty b ↦ let none = no_keys rows c.in-Some.step.beneath w turn.below turn.beneath (sym c.is_empty-else-is_empty.ensures ∙ b.if-not-is_empty.false) in omega (arith, b.total-is)
    ] in (
      turn.after,
      turn.beyond,
      turn.later,
      λ f holds. let all = inv.3 f holds in omega (arith, turn.sums),
      omega (arith, turn.ends),
      omega (arith, turn.low),
    )

pub loop-step-preserved-then-is_empty : goal.loop-step-preserved-then-is_empty
loop-step-preserved-then-is_empty t c =
    let inv = c.loop-step.invariant in
    let rows = c.args.self.now.rows.now in
    let turn = turned rows c.loop-step.rest c.loop-step.around inv.0 c.in-Some.step c.fields_beneath-beneath.result inv.1 inv.2 c.in-Some.ensures.step c.fields_beneath-beneath.ensures in
    let none = no_keys rows c.in-Some.step.after c.loop-step.around turn.after turn.beyond (sym c.is_empty.ensures ∙ c.if-is_empty.true) in (
      turn.below,
      turn.beneath,
      turn.lower,
      λ f holds. let all = inv.3 f holds in omega (arith, turn.sums),
      omega (arith, turn.meets, turn.high),
      omega (arith, turn.starts),
    )

-- The places that the walk comes upon are written one after the other, and counted.
use Rattle.std.proofs.Common.{◌≡◌, ℕ, List, [], ◌∷◌, ◌++◌, length, set, replicate, refl, ap, ◌∙◌, length-append, arith}
use Rattle.std.proofs.Math.Seq.{take-nil}
use Rattle.walking.specs.declared.turn.Scope.TheVariants.{Deep}
use Rattle.walking.specs.Turning.{going}
use Rattle.walking.specs.Lent.{written_over}
use Rattle.walking.proofs.Few.{one_more, none_more}
use Rattle.walking.proofs.Under.{under_way, come_upon, counted, over}
use Rattle.walking.proofs.fields.list_fields.Goals as goal
use Rattle.walking.proofs.fields.list_fields.Goals.{then-count-list, else-count-list}

pub loop-depth-init : goal.loop-depth-init
loop-depth-init c =
    let d = c.args.document.now.stored in
    let clear : c.clear-marks.result.0.now ≡ replicate (length d.fragments.now) 0 = c.clear-marks.ensures.cleared ∙ ap (λ (n : ℕ). replicate n 0) c.requires.wide in (
      refl,
      refl,
      [],
      under_way d Deep c.args.operation.now c.requires.walkable c.args.stack.now c.clear-marks.result.0.now c.requires.tall clear,
      refl,
      rw take-nil refl,
    )

pub prove-unreachable-requires : goal.prove-unreachable-requires
prove-unreachable-requires c =
    let d = c.args.document.now.stored in
    let out = c.loop-depth.invariant.2 in
    let on = come_upon d Deep c.args.operation.now _ (going c.turn.new.stack c.turn.new.depth c.turn.new.marks) out c.in-Some.place c.loop-depth.invariant.3 c.in-Some.ensures in
    let low = counted d Deep c.args.operation.now c.requires.walkable _ _ refl on in
    let more = length-append out (c.in-Some.place ∷ []) in
    omega (arith, low, more, c.loop-depth.invariant.4, c.if-prove.true)

pub loop-depth-preserved-in-Some : goal.loop-depth-preserved-in-Some
loop-depth-preserved-in-Some c =
    let d = c.args.document.now.stored in
    let out = c.loop-depth.invariant.2 in
    let on = come_upon d Deep c.args.operation.now _ (going c.turn.new.stack c.turn.new.depth c.turn.new.marks) out c.in-Some.place c.loop-depth.invariant.3 c.in-Some.ensures in
    let counted = c.loop-depth.invariant.4 in
    let shown = c.loop-depth.invariant.5 in
    let xs = c.args.list.now in
    let long = c.loop-depth.auto.list in (
      refl,
      c.turn.auto.marks ∙ c.loop-depth.invariant.1,
      out ++ c.in-Some.place ∷ [],
      on,
      rw length-append (omega arith),
      elim c.if-count-list.branch [
        | then-count-list w ↦ w.list-is ∙ (ap (λ (l : List ℕ). set l c.loop-depth.count c.in-Some.place) shown ∙ (ap (λ (n : ℕ). set (written_over xs out) n c.in-Some.place) counted ∙ one_more xs out c.in-Some.place (let a = w.if-count-list.true in omega arith)))
        | else-count-list w ↦ w.list-is ∙ (shown ∙ none_more xs out c.in-Some.place (let a = w.if-count-list.false in omega arith))
      ],
    )

pub returns-clause-listing : goal.returns-clause-listing
returns-clause-listing c =
    let w = c.loop-depth.invariant in
    (w.2, over c.args.document.now.stored Deep c.args.operation.now c.loop-depth.stack c.loop-depth.depth c.loop-depth.marks.0.now w.2 w.3 c.loop-depth-test.false, w.4, w.5)

-- The walk goes on while it meets meta-fields.
use Rattle.std.proofs.Common.{◌≡◌, ℕ, [], ◌∷◌, ◌++◌, length, replicate, refl, ap, ◌∙◌, arith}
use Rattle.std.proofs.lemmas.Bool.{false≢true}
use Rattle.walking.specs.declared.turn.Scope.TheVariants.{Flat}
use Rattle.walking.specs.Turning.{going}
use Rattle.walking.proofs.Under.{under_way, come_upon, over}
use Rattle.walking.proofs.Metas.{met, only_met, one_more}
use Rattle.walking.proofs.introspection.meets_meta_fields_only.Goals as goal
use Rattle.walking.proofs.introspection.meets_meta_fields_only.Goals.{then-name-lt-TYPENAME_FIELD-via-then-name-lt-TYPENAME_FIELD, then-name-lt-TYPENAME_FIELD-via-else-name-lt-TYPENAME_FIELD+then-name-gt-TYPE_FIELD}

pub loop-depth-init : goal.loop-depth-init
loop-depth-init c =
    let d = c.args.document.now.stored in
    let clear : c.clear-marks.result.0.now ≡ replicate (length d.fragments.now) 0 = c.clear-marks.ensures.cleared ∙ ap (λ (n : ℕ). replicate n 0) c.requires.wide in (
      refl,
      refl,
      [],
      under_way d Flat c.args.operation.now c.requires.walkable c.args.stack.now c.clear-marks.result.0.now c.requires.tall clear,
      λ p among. absurd among,
    )

pub returns-then-name-lt-TYPENAME_FIELD-clause-answer : goal.returns-then-name-lt-TYPENAME_FIELD-clause-answer
returns-then-name-lt-TYPENAME_FIELD-clause-answer c places listing =
    let d = c.args.document.now.stored in
    let s = c.args.operation.now in
    let w = c.loop-depth.invariant in
    let on = come_upon d Flat s _ (going c.turn.new.stack c.turn.new.depth c.turn.new.marks) w.2 c.in-Some.place w.3 c.in-Some.ensures in (
      λ is. absurd (false≢true is),
      λ intro.
          let meta = intro.fields c.in-Some.place (met d s c.requires.walkable.shape _ w.2 c.in-Some.place on places listing) in
          let low = meta.low in
          let high = meta.high in
          absurd (elim c.then-name-lt-TYPENAME_FIELD.branch [
            | then-name-lt-TYPENAME_FIELD-via-then-name-lt-TYPENAME_FIELD w ↦ omega (arith, low, w.if-name-lt-TYPENAME_FIELD.true)
            | then-name-lt-TYPENAME_FIELD-via-else-name-lt-TYPENAME_FIELD+then-name-gt-TYPE_FIELD w ↦ omega (arith, high, w.if-name-gt-TYPE_FIELD.true)
          ]),
    )

pub loop-depth-preserved-in-Some : goal.loop-depth-preserved-in-Some
loop-depth-preserved-in-Some c =
    let d = c.args.document.now.stored in
    let s = c.args.operation.now in
    let w = c.loop-depth.invariant in
    let low = c.if-name-lt-TYPENAME_FIELD.false in
    let high = c.if-name-gt-TYPE_FIELD.false in (
      refl,
      c.turn.auto.marks ∙ w.1,
      w.2 ++ c.in-Some.place ∷ [],
      come_upon d Flat s _ (going c.turn.new.stack c.turn.new.depth c.turn.new.marks) w.2 c.in-Some.place w.3 c.in-Some.ensures,
      one_more d w.2 c.in-Some.place w.4 (record { low = omega arith; high = omega arith }),
    )

pub returns-clause-answer : goal.returns-clause-answer
returns-clause-answer c places all =
    let d = c.args.document.now.stored in
    let s = c.args.operation.now in
    let w = c.loop-depth.invariant in
    let listing = over d Flat s c.loop-depth.stack c.loop-depth.depth c.loop-depth.marks.0.now w.2 w.3 c.loop-depth-test.false in
    (λ is. record { query = c.if-operation-ne-QUERY.false; fields = only_met d s c.requires.walkable.shape w.2 listing w.4 places all }, λ intro. refl)

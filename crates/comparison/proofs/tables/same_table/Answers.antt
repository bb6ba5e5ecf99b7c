-- Each turn matches one definition with the one of its name in the other table.
use Rattle.std.proofs.Common.{below_more, refl, arith}
use Rattle.std.proofs.lemmas.Bool.{false≢true}
use Rattle.std.proofs.lemmas.List.{length-map}
use Rattle.stored_tables.specs.Layout.{name_of}
use Rattle.comparison.proofs.Matches.{all_matched, as_many, not_absent, found_same}
use Rattle.comparison.proofs.tables.same_table.Goals as goal

pub returns-then-a-b : goal.returns-then-a-b
returns-then-a-b c =
    let a = c.args.a.now in
    let b = c.args.b.now in (
      λ is. absurd (false≢true is),
      λ same. absurd (c.if-a-b.true (as_many a.rows.now b.rows.now a.definitions.now b.definitions.now c.requires.first.indexed.apart c.requires.second.indexed.apart same)),
    )

pub loop-definition-init : goal.loop-definition-init
loop-definition-init c = λ i low. absurd (omega arith)

pub returns : goal.returns
returns c =
    let a = c.args.a.now in
    let b = c.args.b.now in (
      λ is. all_matched a.rows.now b.rows.now a.definitions.now b.definitions.now c.requires.first.indexed.apart c.requires.second.indexed.apart c.if-a-b.false
          (λ i low. c.loop-definition.invariant i (let past = c.loop-definition-test.false in omega arith)),
      λ same. refl,
    )

pub returns-in_default : goal.returns-in_default
returns-in_default c =
    let a = c.args.a.now in
    let b = c.args.b.now in (
      λ is. absurd (false≢true is),
      λ same. absurd (not_absent a.rows.now b.rows.now a.definitions.now b.definitions.now c.requires.first.indexed.apart c.requires.second.indexed.apart same
          c.loop-definition.definition-index c.loop-definition-test.true (c.in_default.ensures.located c.requires.second.indexed)),
    )

pub returns-then-not-same_definition : goal.returns-then-not-same_definition
returns-then-not-same_definition c =
    let a = c.args.a.now in
    let b = c.args.b.now in (
      λ is. absurd (false≢true is),
      λ same. c.if-not-same_definition.ensures.1 (found_same a.rows.now b.rows.now a.definitions.now b.definitions.now c.requires.first.indexed.apart c.requires.second.indexed.apart same
          c.loop-definition.definition-index c.in-Some.place c.loop-definition-test.true (c.in-Some.ensures.located c.requires.second.indexed)),
    )

pub loop-definition-preserved : goal.loop-definition-preserved
loop-definition-preserved c =
    let long = length-map c.args.b.now.definitions.now name_of in
    let only = c.in-Some.ensures.located c.requires.second.indexed in
    below_more _ _ c.loop-definition.invariant
    (c.in-Some.place, omega (arith, only.stands.inside), c.if-not-same_definition.ensures.0 refl)

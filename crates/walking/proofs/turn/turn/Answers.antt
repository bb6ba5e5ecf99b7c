-- Each turn is one of the four that there are.
use Rattle.std.proofs.Common.{Some, sym, ap, ◌∙◌}
use Rattle.walking.proofs.AtTop.{ends, meets_deep, meets_flat, passes, enters, tall}
use Rattle.walking.proofs.Numbers.{is_one, is_two, one_not_two, inline_no_field, inline_no_spread, none_no_field, none_no_spread}
use Rattle.walking.proofs.turn.turn.Goals as goal

pub returns-then-next-end : goal.returns-then-next-end
returns-then-next-end c =
    ends c.args.document.now.stored c.args.scope c.args.stack.now c.args.depth.now c.args.marks.now c.requires.above c.requires.ready c.if-next-end.true

pub bounds-stack-depth : goal.bounds-stack-depth
bounds-stack-depth c =
    let two = is_two _ (sym c.selection_kind.ensures ∙ c.in-Some-Spread.is ∙ ap Some c.in-Some-Spread.field-0-is) in
    tall c.args.document.now.stored c.args.scope c.args.stack.now c.args.depth.now c.args.marks.now c.requires.above c.requires.ready c.requires.shape c.if-next-end.false c.in-Some.place
    (record { names = record { spread = two; there = c.in-Some.ensures.0; named = c.in-Some.ensures.1 }; unmarked = c.in-Some.ensures.2 })

pub returns-in-Some : goal.returns-in-Some
returns-in-Some c =
    let two = is_two _ (sym c.selection_kind.ensures ∙ c.in-Some-Spread.is ∙ ap Some c.in-Some-Spread.field-0-is) in
    enters c.args.document.now.stored c.args.scope c.args.stack.now c.args.depth.now c.args.marks.now c.requires.above c.requires.ready c.requires.shape c.if-next-end.false c.in-Some.place
    (record { names = record { spread = two; there = c.in-Some.ensures.0; named = c.in-Some.ensures.1 }; unmarked = c.in-Some.ensures.2 })

pub returns-in_default : goal.returns-in_default
returns-in_default c =
    let two = is_two _ (sym c.selection_kind.ensures ∙ c.in-Some-Spread.is ∙ ap Some c.in-Some-Spread.field-0-is) in
    passes c.args.document.now.stored c.args.scope c.args.stack.now c.args.depth.now c.args.marks.now c.requires.above c.requires.ready c.if-next-end.false
    (λ one. one_not_two _ one two) (λ f fresh. c.in_default.ensures f fresh.names.there fresh.names.named fresh.unmarked)

pub returns-in-Some-InlineFragment : goal.returns-in-Some-InlineFragment
returns-in-Some-InlineFragment c =
    let is = sym (sym c.selection_kind.ensures ∙ c.in-Some-InlineFragment.is ∙ ap Some c.in-Some-InlineFragment.field-0-is) in
    passes c.args.document.now.stored c.args.scope c.args.stack.now c.args.depth.now c.args.marks.now c.requires.above c.requires.ready c.if-next-end.false
    (λ one. inline_no_field _ is one) (λ f fresh. inline_no_spread _ is fresh.names.spread)

pub returns-in-None : goal.returns-in-None
returns-in-None c =
    let is = sym (sym c.selection_kind.ensures ∙ c.in-None.is) in
    passes c.args.document.now.stored c.args.scope c.args.stack.now c.args.depth.now c.args.marks.now c.requires.above c.requires.ready c.if-next-end.false
    (λ one. none_no_field _ is one) (λ f fresh. none_no_spread _ is fresh.names.spread)

pub returns-in-Deep : goal.returns-in-Deep
returns-in-Deep c =
    meets_deep c.args.document.now.stored c.args.scope c.args.stack.now c.args.depth.now c.args.marks.now c.requires.above c.requires.ready c.in-Deep.is c.if-next-end.false
    (is_one _ (sym c.selection_kind.ensures ∙ c.in-Some-Field.is ∙ ap Some c.in-Some-Field.field-0-is))

pub returns-in-Flat : goal.returns-in-Flat
returns-in-Flat c =
    meets_flat c.args.document.now.stored c.args.scope c.args.stack.now c.args.depth.now c.args.marks.now c.requires.above c.requires.ready c.requires.shape c.in-Flat.is c.if-next-end.false
    (is_one _ (sym c.selection_kind.ensures ∙ c.in-Some-Field.is ∙ ap Some c.in-Some-Field.field-0-is))

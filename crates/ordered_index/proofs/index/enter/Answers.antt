-- Where the probe ends decides what is entered, and the index stays sound.
use Rattle.std.proofs.Common.{◌≡◌, ◌<◌, true, false, map, length, sym, refl, arith, rules}
use Rattle.std.proofs.lemmas.Bool.{cond-true, cond-false, lt-ltb, le-ltb}
use Rattle.ordered_index.specs.Slots.{limit}
use Rattle.ordered_index.specs.Entering.{enter_room}
use Rattle.ordered_index.proofs.Enters.{entering, vacant_inside}
use Rattle.ordered_index.proofs.index.enter.Goals as goal

pub bounds-slots-s : goal.bounds-slots-s
bounds-slots-s g c =
    vacant_inside g.E.Of.PartialEq.eq g.E.Of.Key.digest (map g.E.Entry.keyed c.args.entries.now) c.args.slots.now c.args.key.now c.in-Vacant.s c.in-Vacant.ensures

pub offset_bounds-slots-s : goal.offset_bounds-slots-s
offset_bounds-slots-s g c =
    let low : c.in-Vacant.s < length c.args.slots.now =
    vacant_inside g.E.Of.PartialEq.eq g.E.Of.Key.digest (map g.E.Entry.keyed c.args.entries.now) c.args.slots.now c.args.key.now c.in-Vacant.s c.in-Vacant.ensures in
    search rules

pub returns-in-Found : goal.returns-in-Found
returns-in-Found g c =
    let all = entering g.E.Entry.keyed g.E.Of.PartialEq.eq g.E.Of.Key.digest g.met.E.Of.Key.lawful c.args.entries.now c.args.slots.now c.args.key.now
    _ c.in-Found.ensures _ refl _ refl in
    record { answer = all.0; slots = all.1; located = all.2; full = all.3; sound = all.4 }

pub returns-in-Round : goal.returns-in-Round
returns-in-Round g c =
    let all = entering g.E.Entry.keyed g.E.Of.PartialEq.eq g.E.Of.Key.digest g.met.E.Of.Key.lawful c.args.entries.now c.args.slots.now c.args.key.now
    _ c.in-Round.ensures _ refl _ refl in
    record { answer = all.0; slots = all.1; located = all.2; full = all.3; sound = all.4 }

pub returns-then-count-limit_of : goal.returns-then-count-limit_of
returns-then-count-limit_of g c =
    let entries = c.args.entries.now in
    let slots = c.args.slots.now in
    let none : enter_room entries slots ≡ false = le-ltb (length entries) (limit slots) (omega (arith, c.limit_of.ensures, c.if-count-limit_of.true)) in
    let all = entering g.E.Entry.keyed g.E.Of.PartialEq.eq g.E.Of.Key.digest g.met.E.Of.Key.lawful entries slots c.args.key.now
    _ c.in-Vacant.ensures _ (sym (cond-false _ _ _ none)) _ refl in
    record { answer = all.0; slots = all.1; located = all.2; full = all.3; sound = all.4 }

pub returns-else-count-limit_of : goal.returns-else-count-limit_of
returns-else-count-limit_of g c =
    let entries = c.args.entries.now in
    let slots = c.args.slots.now in
    let room : enter_room entries slots ≡ true = lt-ltb (length entries) (limit slots) (omega (arith, c.limit_of.ensures, c.if-count-limit_of.false)) in
    let all = entering g.E.Entry.keyed g.E.Of.PartialEq.eq g.E.Of.Key.digest g.met.E.Of.Key.lawful entries slots c.args.key.now
    _ c.in-Vacant.ensures _ (sym (cond-true _ _ _ room)) _ refl in
    record { answer = all.0; slots = all.1; located = all.2; full = all.3; sound = all.4 }

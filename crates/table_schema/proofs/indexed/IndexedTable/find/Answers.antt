-- The entry at the place that is found is the first one that has the key.
use Rattle.std.proofs.Common.{None, Some, sym, ap, ◌∙◌}
use Rattle.std.specs.Option.{option_copied}
use Rattle.table_schema.proofs.Founds.{found_place, with_none, read_at}
use Rattle.table_schema.proofs.indexed.IndexedTable.find.Goals as goal

pub returns-in_err-place : goal.returns-in_err-place
returns-in_err-place g c =
    let s = c.args.self.now in
    let at = found_place g.E.Entry.keyed g.E.Of.PartialEq.eq g.E.Of.Key.digest s.entries.items _ s.slots.items _ c.args.key.now None s.found
    c.as_slice.ensures.value c.as_slice-2.ensures.value c.in_err-place.ensures.answer in
    ap option_copied c.from_residual.ensures ∙ sym (with_none g.E.Entry.keyed g.E.Of.PartialEq.eq c.args.key.now s.entries.items at)

pub returns : goal.returns
returns g c =
    let s = c.args.self.now in
    let at = found_place g.E.Entry.keyed g.E.Of.PartialEq.eq g.E.Of.Key.digest s.entries.items _ s.slots.items _ c.args.key.now (Some c.in_ok-place.place) s.found
    c.as_slice.ensures.value c.as_slice-2.ensures.value c.in_ok-place.ensures.answer in
    read_at g.E.Entry.keyed g.E.Of.PartialEq.eq c.args.key.now s.entries.items c.deref.result.now c.in_ok-place.place c.get.result c.deref.ensures.value at
    c.get.ensures.lookup.0 c.get.ensures.lookup.1

-- Each turn looks at one slot, and goes on to the next.
use Rattle.std.proofs.Common.{◌≡◌, ℕ, ◌+◌, ◌-◌, ◌<◌, map, length, get_or, sym, ap, ◌∙◌, subst, mod-lt, arith}
use Rattle.ordered_index.specs.Probing.{names, probe}
use Rattle.ordered_index.proofs.Probes.{probe_found, probe_next, names_read, names_none}
use Rattle.ordered_index.proofs.probe.probe.Goals as goal
use Rattle.ordered_index.proofs.probe.probe.Goals.{else-held-entries-via-then-held-entries+else-eq, else-held-entries-via-else-held-entries}

pub returns-then-eq : goal.returns-then-eq
returns-then-eq g c =
    let slots = c.args.slots.now in
    let entries = c.args.entries.now in
    let q = c.args.key.now in
    let at = c.loop-step.at in
    let step = c.loop-step.step in
    let read = c.index-entries-held.result in
    let same = sym c.if-eq.true ∙ c.eq.ensures ∙ ap (λ k. g.E.Of.PartialEq.eq k q) c.key.ensures in
    let named = names_read g.E.Entry.keyed g.E.Of.PartialEq.eq entries q (get_or slots at 0) read _ c.if-held-eq0.false c.if-held-entries.true c.index-entries-held.is same in
    sym (probe_found g.E.Of.PartialEq.eq (map g.E.Entry.keyed entries) slots q at (length slots - step) (length slots - (step + 1)) (omega arith) c.if-held-eq0.false named)
    ∙ c.loop-step.invariant.1

pub loop-step-preserved : goal.loop-step-preserved
loop-step-preserved g c =
    let slots = c.args.slots.now in
    let entries = c.args.entries.now in
    let keys = map g.E.Entry.keyed entries in
    let equal = g.E.Of.PartialEq.eq in
    let q = c.args.key.now in
    let at = c.loop-step.at in
    let step = c.loop-step.step in
    let some-slot : 0 < length slots = omega arith in
    let next = c.next_slot-at.ensures in
    let other : names equal keys q (get_or slots at 0) ≡ _ =
    elim c.else-held-entries.branch [
      | else-held-entries-via-then-held-entries+else-eq w ↦
          names_read g.E.Entry.keyed equal entries q (get_or slots at 0) w.index-entries-held.result _ c.if-held-eq0.false w.if-held-entries.true w.index-entries-held.is
          (sym w.if-eq.false ∙ w.eq.ensures ∙ ap (λ k. equal k q) w.key.ensures)
      | else-held-entries-via-else-held-entries w ↦ names_none g.E.Entry.keyed equal entries q (get_or slots at 0) w.if-held-entries.false
    ] in
    let goes = probe_next equal keys slots q at (length slots - step) (length slots - (step + 1)) (omega arith) c.if-held-eq0.false other in (
      subst (λ (n : ℕ). n < length slots) (sym next) (mod-lt (at + 1) some-slot),
      ap (λ n. probe equal keys slots q n (length slots - (step + 1))) next ∙ sym goes ∙ c.loop-step.invariant.1,
    )

-- The five tests together decide whether the slots are a sound index.
use Rattle.std.proofs.Common.{◌≡◌, ℕ, ◌≤◌, true, map, length, get_or, sym, ◌∙◌, arith}
use Rattle.std.proofs.lemmas.List.{length-map}
use Rattle.std.proofs.lemmas.Bool.{false≢true, eqb-true, leb-true}
use Rattle.std.specs.Int.{IsPowerOfTwo}
use Rattle.ordered_index.specs.Slots.{limit, used}
use Rattle.ordered_index.proofs.Places.{met_sound, sound_met}
use Rattle.ordered_index.proofs.Enters.{found_met, met_found, each_placed, all_placed}
use Rattle.ordered_index.proofs.check.agrees.Goals as goal
use Rattle.ordered_index.proofs.check.agrees.Goals.{then-power_of_two, else-power_of_two, then-entries-limit_of, else-entries-limit_of, then-all_within, else-all_within}

pub returns-then-count_used-entries : goal.returns-then-count_used-entries
returns-then-count_used-entries g c =
    let equal = g.E.Of.PartialEq.eq in
    let digest = g.E.Of.Key.digest in
    let laws = g.met.E.Of.Key.lawful in
    let entries = c.args.entries.now in
    let slots = c.args.slots.now in
    let keys = map g.E.Entry.keyed entries in
    let long : length keys ≡ length entries = length-map entries g.E.Entry.keyed in
    let filled : (c.if-entries-limit_of.value ≡ true) × (used slots ≡ length keys) =
    elim c.if-all_within.branch [
      | then-all_within w ↦ (w.if-all_within.true, sym w.count_used.ensures ∙ eqb-true _ _ (sym w.value-is ∙ c.if-count_used-entries.true) ∙ sym long)
      | else-all_within w ↦ absurd (false≢true (sym w.if-all_within.false ∙ sym w.value-is ∙ c.if-count_used-entries.true))
    ] in
    let ranged : (c.if-power_of_two.value ≡ true) × ((s : ℕ) → get_or slots s 0 ≤ length entries) =
    elim c.if-entries-limit_of.branch [
      | then-entries-limit_of w ↦ (w.if-entries-limit_of.true, w.all_within.ensures.0 (sym w.value-is ∙ filled.0))
      | else-entries-limit_of w ↦ absurd (false≢true (sym w.if-entries-limit_of.false ∙ sym w.value-is ∙ filled.0))
    ] in
    let sized : IsPowerOfTwo (length slots) × (length entries ≤ limit slots) =
    elim c.if-power_of_two.branch [
      | then-power_of_two w ↦ (c.power_of_two.ensures.0 w.if-power_of_two.true, omega (arith, w.limit_of.ensures, leb-true _ _ (sym w.value-is ∙ ranged.0)))
      | else-power_of_two w ↦ absurd (false≢true (sym w.if-power_of_two.false ∙ sym w.value-is ∙ ranged.0))
    ] in (
      λ all. met_sound equal digest laws keys slots sized.0 (omega (arith, sized.1)) (λ s. omega (arith, ranged.1 s)) filled.1
          (λ n x low. found_met equal digest keys slots (get_or keys n x) n (each_placed g.E.Entry.keyed equal digest entries slots (sym c.each_found.ensures ∙ all) n x low)),
      λ sound. c.each_found.ensures ∙ all_placed g.E.Entry.keyed equal digest entries slots (λ n x low. met_found equal digest laws keys slots (get_or keys n x) n (sound_met equal digest laws keys slots sound n x low)),
    )

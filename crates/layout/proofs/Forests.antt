-- Rows without a misfit are those of a forest that keeps the rules, and the rows of such a forest are without one.
use Rattle.std.proofs.Common.{◌≡◌, ℕ, zero, suc, ◌+◌, ◌-◌, ◌<◌, ◌≤◌, eqb, List, map, length, get_or, drop, None, sym, ap, ◌∙◌, subst, ⊎_elim, arith}
use Rattle.std.proofs.lemmas.List.{get_or-map}
use Rattle.std.proofs.lemmas.Bool.{ne_eqb, eqb-false, cases_eq}
use Rattle.refusal.specs.Firsts.{first_fault, or_else}
use Rattle.refusal.proofs.Firsts.{first_same, no_fault, or_else_none}
use Rattle.layout.specs.declared.row.RowView.{RowView}
use Rattle.layout.specs.Forest.{Forest, none, row, size}
use Rattle.layout.specs.Places.{no_view, end_at, own_fault, fault_in, misfit, first_misfit}
use Rattle.layout.specs.Shapes.{Shape, Rules, Keeps, Stand, Lawful, view_of}
use Rattle.layout.proofs.Tables.{opened, joined}
use Rattle.layout.proofs.Windows.{Fits, fits, fine, Closed, fault_next_row, fault_behind, search_step, closed_next}

module _ {A R : Type 0} (h : Shape A R) (rules : Rules A) (rows : List R) (d : R) where
  abbrev views : List RowView
  views = map (view_of h rules) rows

  seen : (i : ℕ) → i < length rows → get_or views i no_view ≡ view_of h rules (get_or rows i d)
  seen i low = get_or-map (view_of h rules) rows i d no_view low

  no_rows : (i : ℕ) → Closed views i i
  no_rows i j low high = absurd (omega arith)

  -- the search in the range behind a row and what is beneath it
  behind : (end room i : ℕ) → i < end_at views i → end_at views i ≤ end → Closed views i (end_at views i)
      → first_fault misfit (fault_in views i end room) (end_at views i) (end - end_at views i) ≡ first_misfit views (end_at views i) end room
  behind end room i above inside closed =
      let next = end_at views i in
      first_same misfit (fault_in views i end room) (fault_in views next end room) next (end - next)
      (λ m less. fault_behind views i end room next (next + m) (omega arith) closed (omega arith))

  -- what is to be shown of a range
  abbrev Stands : ℕ → ℕ → ℕ → Type 0
  Stands i e room = i ≤ e → e ≤ length rows → first_misfit views i e room ≡ None → (f : Forest A) × Lawful h rules rows i e room f

  at_end : (i e room : ℕ) → i ≡ e → (f : Forest A) × Lawful h rules rows i e room f
  at_end i e room is =
      (none, record { stand = record { ends = omega arith; reads = ap (λ k. drop k rows) is }; keeps = tt; shallow = omega arith })

  nonempty : (n i e room : ℕ) → ((j k levels : ℕ) → k - j ≤ n → Stands j k levels) → e - i ≤ suc n → i < e → e ≤ length rows → first_misfit views i e room ≡ None → (f : Forest A) × Lawful h rules rows i e room f
  nonempty n i e room again few low long clean =
      let r = get_or rows i d in
      let view = view_of h rules r in
      let inside : i < length rows = omega arith in
      let own = no_fault misfit (fault_in views i e room) i (e - i) clean 0 (omega arith) in
      let here : own_fault view i e (eqb room 0) ≡ None =
      ap (λ v. own_fault v i e (eqb room 0)) (sym (seen i inside)) ∙ sym (fault_next_row views i e room i (omega arith) (no_rows i))
      ∙ ap (fault_in views i e room) (omega arith) ∙ own in
      let fit = fits view i e (eqb room 0) here in
      let next : end_at views i ≡ h.end r = ap (λ v. v.end) (seen i inside) in
      let some : 0 < room = let z = eqb-false room 0 fit.shallow in omega arith in
      let above : i < end_at views i = omega (arith, fit.above) in
      let within : end_at views i ≤ e = omega (arith, fit.inside) in
      let step = search_step views i e room i (omega arith) (no_rows i) low some above within (ap (fault_in views i e room) (omega arith) ∙ own) in
      let both = or_else_none _ _ (sym step ∙ clean) in
      let closed = closed_next views i room i (omega arith) (no_rows i) above both.0 in
      let below = again (i + 1) (end_at views i) (room - 1) (omega arith) (omega arith) (omega arith) both.0 in
      let after = again (end_at views i) e room (omega arith) within long (sym (behind e room i above within closed) ∙ both.1) in
      let below-stands = subst (λ (k : ℕ). Stand h rows (i + 1) k below.0) next below.1.stand in
      let after-stands = subst (λ (k : ℕ). Stand h rows k e after.0) next after.1.stand in
      let keeps : Keeps rules (h.bare r) below.0 =
      record { named = fit.named; whole = fit.whole; leaf = λ is. omega (arith, fit.leaf is, below-stands.ends) } in (
        row (h.bare r) below.0 after.0,
        record {
          stand = joined h rows i e d below.0 after.0 inside below-stands after-stands;
          keeps = (keeps, below.1.keeps, after.1.keeps);
          shallow = omega (arith, below.1.shallow, after.1.shallow);
        },
      )

  stands : (n i e room : ℕ) → e - i ≤ n → Stands i e room
  stands zero i e room few low long clean = at_end i e room (omega arith)
  stands (suc n) i e room few low long clean =
      ⊎_elim (λ (is : i ≡ e). at_end i e room is) (λ (other : i ≡ e → ⊥). nonempty n i e room (stands n) few (omega arith) long clean) (cases_eq i e)

  -- rows without a misfit are those of a lawful forest
  pub lawful : (i e room : ℕ) → i ≤ e → e ≤ length rows → first_misfit views i e room ≡ None → (f : Forest A) × Lawful h rules rows i e room f
  lawful i e room low long clean = stands (e - i) i e room (omega arith) low long clean

  -- the rows of a lawful forest are without a misfit
  pub clean : (f : Forest A) (i e room : ℕ) → e ≤ length rows → Lawful h rules rows i e room f → first_misfit views i e room ≡ None
  clean none i e room long all =
      let left : e - i ≡ 0 = omega (arith, all.stand.ends) in
      ap (first_fault misfit (fault_in views i e room) i) left
  clean (row a below after) i e room long all =
      let ends = all.stand.ends in
      let low : i < e = omega arith in
      let inside : i < length rows = omega arith in
      let r = get_or rows i d in
      let view = view_of h rules r in
      let o = opened h rows i e d (row a below after) low inside all.stand in
      let next : end_at views i ≡ h.end r = ap (λ v. v.end) (seen i inside) in
      let same : row a below after ≡ row (h.bare r) o.below o.after = o.is in
      let own : a ≡ h.bare r = cc in
      let lower : below ≡ o.below = cc in
      let later : after ≡ o.after = cc in
      let kept = all.keeps.0 in
      let some : 0 < room = omega (arith, all.shallow) in
      let fit : Fits view i e (eqb room 0) =
      record {
        named = ap rules.unnamed (sym own) ∙ kept.named;
        whole = ap rules.broken (sym own) ∙ kept.whole;
        above = o.low;
        inside = o.high;
        leaf = λ is. let none_below = kept.leaf (ap rules.leaf own ∙ is) in let size_same = ap size lower in omega (arith, o.beneath.ends);
        shallow = ne_eqb room 0 (λ is. omega arith);
      } in
      let here : fault_in views i e room i ≡ None =
      fault_next_row views i e room i (omega arith) (no_rows i) ∙ ap (λ v. own_fault v i e (eqb room 0)) (seen i inside) ∙ fine view i e (eqb room 0) fit in
      let above : i < end_at views i = omega (arith, o.low) in
      let within : end_at views i ≤ e = omega (arith, o.high) in
      let beneath : first_misfit views (i + 1) (end_at views i) (room - 1) ≡ None =
      ap (λ k. first_misfit views (i + 1) k (room - 1)) next
      ∙ clean below (i + 1) (h.end r) (room - 1) (omega (arith, o.high))
      (record { stand = subst (Stand h rows (i + 1) (h.end r)) (sym lower) o.beneath; keeps = all.keeps.1; shallow = omega (arith, all.shallow) }) in
      let closed = closed_next views i room i (omega arith) (no_rows i) above beneath in
      let beyond : first_misfit views (end_at views i) e room ≡ None =
      ap (λ k. first_misfit views k e room) next
      ∙ clean after (h.end r) e room long
      (record { stand = subst (Stand h rows (h.end r) e) (sym later) o.beyond; keeps = all.keeps.2; shallow = omega (arith, all.shallow) }) in
      search_step views i e room i (omega arith) (no_rows i) low some above within here
      ∙ ap (λ x. or_else x (first_fault misfit (fault_in views i e room) (end_at views i) (e - end_at views i))) beneath
      ∙ behind e room i above within closed ∙ beyond

-- The rows that do not fit: of one range, of several, and with those that are in no range or in several.
use Rattle.std.proofs.Common.{◌≡◌, ℕ, ◌+◌, ◌-◌, ◌<◌, ◌≤◌, Bool, ◌||◌, min, List, [], ◌∷◌, ◌++◌, length, get_or, drop, Some, None, Ok, Err, Option, sym, refl, ap, ◌∙◌, subst, arith}
use Rattle.std.specs.Option.{is_some}
use Rattle.std.proofs.lemmas.List.{drop_more}
use Rattle.std.proofs.lemmas.List.Folds.{list_any-append}
use Rattle.refusal.specs.Firsts.{or_else, verdict_of}
use Rattle.refusal.proofs.Firsts.{verdict_ok, verdict_err}
use Rattle.layout.specs.declared.row.RowView.{RowView}
use Rattle.layout.specs.declared.row.Misfit.{Misfit}
use Rattle.layout.specs.Places.{fault_in, first_misfit}
use Rattle.stored_tables.specs.declared.definition.StoredDefinition.{StoredDefinition}
use Rattle.stored_tables.specs.Verdict.{first_place, no_stored_definition, unfit, stray, unfit_in, broken_row, alone, all_stored}
use Rattle.stored_tables.specs.Ranges.{Placed, InOrder, earlier}
use Rattle.stored_tables.proofs.Places.{earlier_none, earlier_of_three, place_parts, place_none, place_same, place_either, place_of, place_of_fault, told_above}
use Rattle.stored_tables.proofs.Following.{held_later, held_before, holds_inside, in_order_from}

or_none : (a b : Option ℕ) → b ≡ None → or_else a b ≡ a
or_none None b is = is
or_none (Some a) b is = refl

module _ (views : List RowView) where
  abbrev unfit_for : StoredDefinition → ℕ → Bool
  unfit_for d row = unfit views row d

  -- rows outside a range do not count, and in it the first is that of the layout
  pub unfit_places : (n : ℕ) (d : StoredDefinition) → Placed n d → first_place (unfit_for d) 0 n ≡ place_of (first_misfit views d.row.first d.row.end 32)
  unfit_places n d placed =
      let first = d.row.first in
      let end = d.row.end in
      let fault = fault_in views first end 32 in
      let all : n ≡ first + ((end - first) + (n - end)) = omega (arith, placed.ordered, placed.within) in
      let last : first + (end - first) ≡ end = omega (arith, placed.ordered) in
      let before : first_place (unfit_for d) 0 first ≡ None = place_none (unfit_for d) 0 first (λ m low. rw (held_later (0 + m) d (omega arith)) refl) in
      let start : 0 + first ≡ first = omega arith in
      let after : first_place (unfit_for d) (first + (end - first)) (n - end) ≡ None =
      place_none (unfit_for d) (first + (end - first)) (n - end) (λ m low. rw (held_before (first + (end - first) + m) d (omega arith)) refl) in
      let within : first_place (unfit_for d) first (end - first) ≡ first_place (λ k. is_some (fault k)) first (end - first) =
      place_same (unfit_for d) (λ k. is_some (fault k)) first (end - first) (λ m low. rw (holds_inside (first + m) d (omega arith) (omega arith)) refl) in
      ap (first_place (unfit_for d) 0) all
      ∙ place_parts (unfit_for d) 0 first ((end - first) + (n - end))
      ∙ ap (λ x. or_else x (first_place (unfit_for d) (0 + first) ((end - first) + (n - end)))) before
      ∙ ap (λ k. first_place (unfit_for d) k ((end - first) + (n - end))) start
      ∙ place_parts (unfit_for d) first (end - first) (n - end)
      ∙ or_none (first_place (unfit_for d) first (end - first)) (first_place (unfit_for d) (first + (end - first)) (n - end)) after
      ∙ within ∙ place_of_fault fault first (end - first)

  -- what the layout's check says of a range that is within the rows
  module _ (n : ℕ) (d : StoredDefinition) (placed : Placed n d) where
    same_range : first_misfit views (min d.row.first (min d.row.end n)) (min d.row.end n) 32 ≡ first_misfit views d.row.first d.row.end 32
    same_range =
        let high : min d.row.end n ≡ d.row.end = omega (arith, placed.within) in
        let low : min d.row.first d.row.end ≡ d.row.first = omega (arith, placed.ordered) in
        rw (high, low) refl

    pub no_misfit : Ok tt ≡ verdict_of (first_misfit views (min d.row.first (min d.row.end n)) (min d.row.end n) 32) → None ≡ first_place (unfit_for d) 0 n
    no_misfit is = ap place_of (sym (verdict_ok _ (sym is)) ∙ same_range) ∙ sym (unfit_places n d placed)

    pub some_misfit : (m : Misfit) → Err m ≡ verdict_of (first_misfit views (min d.row.first (min d.row.end n)) (min d.row.end n) 32) → Some (m.row - 1) ≡ first_place (unfit_for d) 0 n
    some_misfit m is = ap place_of (sym (verdict_err _ m (sym is)) ∙ same_range) ∙ sym (unfit_places n d placed)

    pub misfit_above : (m : Misfit) → Err m ≡ verdict_of (first_misfit views (min d.row.first (min d.row.end n)) (min d.row.end n) 32) → 1 ≤ m.row
    misfit_above m is =
        let first = min d.row.first (min d.row.end n) in
        let end = min d.row.end n in
        told_above (fault_in views first end 32) first (end - first) m (verdict_err _ m (sym is))

  abbrev pub misfits : ℕ → List StoredDefinition → Option ℕ
  misfits n ds = first_place (unfit_in views ds) 0 n

  none_of_none : (n : ℕ) → misfits n [] ≡ None
  none_of_none n = place_none (unfit_in views []) 0 n (λ m low. refl)

  one_more : (n : ℕ) (d : StoredDefinition) (ds : List StoredDefinition) → misfits n (d ∷ ds) ≡ earlier (first_place (unfit_for d) 0 n) (misfits n ds)
  one_more n d ds = place_either (unfit_for d) (unfit_in views ds) 0 n

  -- one definition more of a table is looked at
  pub looked_at : (n i : ℕ) (ds : List StoredDefinition) (first found next : Option ℕ) (total : Option ℕ) → i < length ds
      → found ≡ first_place (unfit_for (get_or ds i no_stored_definition)) 0 n → next ≡ earlier first found
      → earlier first (misfits n (drop i ds)) ≡ total → earlier next (misfits n (drop (i + 1) ds)) ≡ total
  looked_at n i ds first found next total low is then before =
      let d = get_or ds i no_stored_definition in
      ap (λ x. earlier x (misfits n (drop (i + 1) ds))) (then ∙ ap (earlier first) is)
      ∙ earlier_of_three first (first_place (unfit_for d) 0 n) (misfits n (drop (i + 1) ds))
      ∙ ap (earlier first) (sym (one_more n d (drop (i + 1) ds)) ∙ ap (misfits n) (sym (drop_more ds i no_stored_definition low)))
      ∙ before

  order_tail : (n : ℕ) (ds : List StoredDefinition) (d : StoredDefinition) (rest : List StoredDefinition) → ds ≡ d ∷ rest → InOrder n 0 ds → Placed n d × InOrder n 0 rest
  order_tail n ds d rest is order =
      let at : InOrder n 0 (d ∷ rest) = subst (InOrder n 0) is order in
      (at.1, in_order_from n d.row.end 0 rest (omega arith) at.2)

  pub order_at : (n i : ℕ) (ds : List StoredDefinition) → i < length ds → InOrder n 0 (drop i ds) → Placed n (get_or ds i no_stored_definition) × InOrder n 0 (drop (i + 1) ds)
  order_at n i ds low order = order_tail n (drop i ds) (get_or ds i no_stored_definition) (drop (i + 1) ds) (drop_more ds i no_stored_definition low) order

  -- all were looked at
  pub looked_through : (n i : ℕ) (ds : List StoredDefinition) (first total : Option ℕ) → drop i ds ≡ [] → earlier first (misfits n (drop i ds)) ≡ total → first ≡ total
  looked_through n i ds first total is found =
      sym (earlier_none first) ∙ ap (earlier first) (sym (ap (misfits n) is ∙ none_of_none n)) ∙ found

  two_tables : (n : ℕ) (xs ys : List StoredDefinition) → misfits n (xs ++ ys) ≡ earlier (misfits n xs) (misfits n ys)
  two_tables n xs ys =
      place_same (unfit_in views (xs ++ ys)) (λ k. unfit_in views xs k || unfit_in views ys k) 0 n (λ m low. list_any-append (unfit views (0 + m)) xs ys)
      ∙ place_either (unfit_in views xs) (unfit_in views ys) 0 n

  -- the parts of the search for a row that breaks the layout, put together
  module _ (n : ℕ) (anonymous : Option StoredDefinition) (operations fragments : List StoredDefinition) where
    abbrev strays : Option ℕ
    strays = first_place (stray (all_stored anonymous operations fragments)) 0 n

    pub put_together : (a b c : Option ℕ) → a ≡ earlier strays (misfits n operations) → b ≡ earlier a (misfits n fragments) → c ≡ earlier b (misfits n (alone anonymous))
        → c ≡ first_place (broken_row views (all_stored anonymous operations fragments)) 0 n
    put_together a b c x y z =
        let o = misfits n operations in
        let f = misfits n fragments in
        let one = misfits n (alone anonymous) in
        let all = all_stored anonymous operations fragments in
        let whole = place_either (stray all) (unfit_in views all) 0 n in
        let parts = two_tables n operations (fragments ++ alone anonymous) in
        let rest = two_tables n fragments (alone anonymous) in
        z ∙ ap (λ p. earlier p one) (y ∙ ap (λ p. earlier p f) x)
        ∙ earlier_of_three (earlier strays o) f one
        ∙ earlier_of_three strays o (earlier f one)
        ∙ ap (λ p. earlier strays (earlier o p)) (sym rest)
        ∙ ap (earlier strays) (sym parts)
        ∙ sym whole

  pub with_none : (n : ℕ) (b : Option ℕ) → b ≡ earlier b (misfits n (alone None))
  with_none n b = sym (ap (earlier b) (none_of_none n) ∙ earlier_none b)

  pub with_one : (n : ℕ) (d : StoredDefinition) (b c found : Option ℕ) → c ≡ earlier b found → found ≡ first_place (unfit_for d) 0 n → c ≡ earlier b (misfits n (alone (Some d)))
  with_one n d b c found is then =
      is ∙ ap (earlier b) (then ∙ sym (one_more n d [] ∙ ap (earlier (first_place (unfit_for d) 0 n)) (none_of_none n) ∙ earlier_none (first_place (unfit_for d) 0 n)))

-- Where tables have no fault and a sound index, their definitions have the shape that a walk relies on.
use Rattle.std.proofs.Common.{◌≡◌, ℕ, zero, suc, ◌+◌, ◌<◌, ◌≤◌, ◌⊎◌, inl, inr, Bool, true, false, cond, ◌&&◌, List, [], ◌∷◌, map, length, get_or, count_by, Some, None, Option, sym, refl, ap, ◌∙◌, subst, arith}
use Rattle.std.specs.Option.{is_some}
use Rattle.std.proofs.lemmas.Bool.{cases_lt, or_parts, false≢true}
use Rattle.std.proofs.lemmas.List.{get_or-map}
use Rattle.std.proofs.lemmas.List.Sums.{sum_by-cons}
use Rattle.std.proofs.lemmas.Option.{get_or_from_slice_get, slice_get_within}
use Rattle.layout.specs.declared.row.RowView.{RowView}
use Rattle.layout.specs.declared.row.RowFault.{RowFault}
use Rattle.layout.specs.Places.{no_view, fault_in, own_fault}
use Rattle.layout.proofs.Windows.{fits}
use Rattle.selection_rules.specs.Stored.{stored_view}
use Rattle.ordered_index.specs.Keys.{same_name, name_hash}
use Rattle.ordered_index.specs.Sound.{Sound}
use Rattle.stored_tables.specs.declared.definition.StoredDefinition.{StoredDefinition}
use Rattle.stored_tables.specs.declared.stored.StoredDocument.{StoredDocument}
use Rattle.stored_tables.specs.Layout.{name_of}
use Rattle.stored_tables.specs.Verdict.{definition_at, no_stored_definition, no_stored_row, anonymous_broken, holds, unfit_in, alone, all_stored}
use Rattle.stored_tables.specs.Ranges.{InOrder}
use Rattle.stored_tables.proofs.Following.{placed_at, holds_inside, counted_at, held_in_all, in_place}
use Rattle.stored_tables.proofs.Faultless.{Faultless, faultless, in_one, fitting}
use Rattle.stored_tables.proofs.Names.{one_place}
use Rattle.finished_tables.specs.declared.indexed.IndexedDocument.{IndexedDocument}
use Rattle.walking.specs.declared.judge.Lengths.{Lengths}
use Rattle.finished_rules.specs.ReachesInTables.{row_at, fragment_at, Beneath}
use Rattle.walking.specs.Tables.{InShape, Walkable}
use Rattle.walking.specs.Refusals.{operation_at, Accepted}

-- ranges that follow one another

from_here : (rows s : ℕ) (ds : List StoredDefinition) (f : ℕ) → InOrder rows s ds → f < length ds → s ≤ (definition_at ds f).row.first
from_here rows s [] f order low = absurd (omega arith)
from_here rows s (d ∷ ds) zero order low = order.0
from_here rows s (d ∷ ds) (suc f) order low =
    let later = from_here rows d.row.end ds f order.2 (omega arith) in
    let a = order.0 in
    let b = order.1.ordered in
    omega arith

one_behind : (rows s : ℕ) (ds : List StoredDefinition) (f g : ℕ) → InOrder rows s ds → f < g → g < length ds → (definition_at ds f).row.end ≤ (definition_at ds g).row.first
one_behind rows s [] f g order less low = absurd (omega arith)
one_behind rows s (d ∷ ds) f zero order less low = absurd (omega arith)
one_behind rows s (d ∷ ds) zero (suc g) order less low = from_here rows d.row.end ds g order.2 (omega arith)
one_behind rows s (d ∷ ds) (suc f) (suc g) order less low = one_behind rows d.row.end ds f g order.2 (omega arith) (omega arith)

one_range : (rows : ℕ) (ds : List StoredDefinition) (f g p : ℕ) → InOrder rows 0 ds → f < length ds → g < length ds → Beneath (definition_at ds f) p → Beneath (definition_at ds g) p → f ≡ g
one_range rows ds f g p order a b x y = go (cases_lt f g) (cases_lt g f)
  where
    go : (f < g) ⊎ (g ≤ f) → (g < f) ⊎ (f ≤ g) → f ≡ g
    go (inl less) z = let far = one_behind rows 0 ds f g order less b in let c = x.1 in let e = y.0 in absurd (omega arith)
    go (inr z) (inl less) = let far = one_behind rows 0 ds g f order less a in let c = y.1 in let e = x.0 in absurd (omega arith)
    go (inr z) (inr u) = omega arith

-- rows in ranges

rest_false : (a b : Bool) → a ≡ true → (a && b) ≡ false → b ≡ false
rest_false true b is none = none
rest_false false b is none = absurd (false≢true is)

-- a row in some range fits it
fits_one : (views : List RowView) (p : ℕ) (ds : List StoredDefinition) → 1 ≤ count_by (holds p) ds → unfit_in views ds p ≡ false → (s : StoredDefinition) × (is_some (fault_in views s.row.first s.row.end 32 p) ≡ false)
fits_one views p [] some fit = absurd (omega arith)
fits_one views p (d ∷ ds) some fit = go (fits_one views p ds) (holds p d) refl
  where
    go : (1 ≤ count_by (holds p) ds → unfit_in views ds p ≡ false → (s : StoredDefinition) × (is_some (fault_in views s.row.first s.row.end 32 p) ≡ false)) → (b : Bool) → holds p d ≡ b
        → (s : StoredDefinition) × (is_some (fault_in views s.row.first s.row.end 32 p) ≡ false)
    go ih true is =
        let parts = or_parts (holds p d && is_some (fault_in views d.row.first d.row.end 32 p)) (unfit_in views ds p) fit in
        (d, rest_false (holds p d) _ is parts.0)
    go ih false is =
        let parts = or_parts (holds p d && is_some (fault_in views d.row.first d.row.end 32 p)) (unfit_in views ds p) fit in
        let sums = sum_by-cons (λ (x : StoredDefinition). cond {A = ℕ} (holds p x) 1 0) d ds in
        let off : cond {A = ℕ} (holds p d) 1 0 ≡ 0 = rw is refl in
        ih (omega (arith, some, sums, off)) parts.1

sound_row : (view : RowView) (k bound : ℕ) (deep : Bool) → is_some (own_fault view k bound deep) ≡ false → k < view.end
sound_row view k bound deep none = (fits view k bound deep (no_fault (own_fault view k bound deep) none)).above
  where
    no_fault : (f : Option RowFault) → is_some f ≡ false → f ≡ None
    no_fault None is = refl
    no_fault (Some f) is = absurd (false≢true (sym is))

module _ (d : StoredDocument) (whole : Faultless d.anonymous d.operations.now d.fragments.now d.rows.now) where
  row_ahead : (p : ℕ) → p < length d.rows.now → p < (row_at d p).selection.end
  row_ahead p low =
      let views = map stored_view d.rows.now in
      let one = in_one d.anonymous d.operations.now d.fragments.now d.rows.now whole p low in
      let ds = all_stored d.anonymous d.operations.now d.fragments.now in
      let fit = fits_one views p ds (omega arith) (fitting d.anonymous d.operations.now d.fragments.now d.rows.now whole p low) in
      let end = sound_row (get_or views p no_view) p _ _ fit.1 in
      let is = ap (λ (v : RowView). v.end) (get_or-map stored_view d.rows.now p no_stored_row no_view low) in
      omega arith

  in_shape : (slots : List ℕ) → Sound same_name name_hash (map name_of d.fragments.now) slots → InShape d
  in_shape slots sound =
      record {
        names = one_place d.fragments.now sound.apart;
        apart = λ f g p a b x y. one_range (length d.rows.now) d.fragments.now f g p whole.fragments a b x y;
        within = λ f low. (placed_at (length d.rows.now) 0 d.fragments.now f no_stored_definition whole.fragments low).within;
        ahead = row_ahead;
      }

  -- an operation stands within the rows, and no fragment has a row of it
  operation_placed : (operation : ℕ) (s : StoredDefinition) → operation_at d operation ≡ Some s
      → (s.row.end ≤ length d.rows.now) × ((p : ℕ) → Beneath s p → 1 ≤ count_by (holds p) d.operations.now + count_by (holds p) (alone d.anonymous))
  operation_placed zero s there =
      let whole_one : anonymous_broken (length d.rows.now) (Some s) ≡ false = subst (λ (x : Option StoredDefinition). anonymous_broken (length d.rows.now) x ≡ false) there whole.anonymous in
      let placed = in_place 0 (length d.rows.now) s (or_parts _ _ whole_one).1 in (
        placed.placed.within,
        λ p b.
            let one : 1 ≤ count_by (holds p) (alone (Some s)) = counted_at (holds p) (s ∷ []) 0 (omega arith) (holds_inside p s b.0 b.1) in
            let same : 1 ≤ count_by (holds p) (alone d.anonymous) = subst (λ (x : Option StoredDefinition). 1 ≤ count_by (holds p) (alone x)) (sym there) one in
            omega arith,
      )
  operation_placed (suc n) s there =
      let is = get_or_from_slice_get d.operations.now n s no_stored_definition there in
      let low = slice_get_within d.operations.now n s there in (
        subst (λ (x : StoredDefinition). x.row.end ≤ length d.rows.now) is (placed_at (length d.rows.now) 0 d.operations.now n no_stored_definition whole.operations low).within,
        λ p b. let one = counted_at (holds p) d.operations.now n low (ap (holds p) is ∙ holds_inside p s b.0 b.1) in omega arith,
      )

  apart_from : (operation : ℕ) (s : StoredDefinition) → operation_at d operation ≡ Some s → (f p : ℕ) → f < length d.fragments.now → Beneath s p → Beneath (fragment_at d f) p → ⊥
  apart_from operation s there f p low b at =
      let placed = operation_placed operation s there in
      let own = placed.1 p b in
      let high = placed.0 in
      let behind = b.1 in
      let one = in_one d.anonymous d.operations.now d.fragments.now d.rows.now whole p (omega arith) in
      let other = counted_at (holds p) d.fragments.now f low (holds_inside p (fragment_at d f) at.0 at.1) in
      let sum = held_in_all p d.anonymous d.operations.now d.fragments.now _ _ _ refl refl refl in
      omega arith

pub walkable : (d : IndexedDocument) (operation : ℕ) (lent : Lengths) (s : StoredDefinition) → Accepted d operation lent s → Walkable d.stored s
walkable d operation lent s ok =
    let whole = faultless d.stored.anonymous d.stored.operations.now d.stored.fragments.now d.stored.rows.now ok.clean in
    record {
      shape = in_shape d.stored whole d.fragment_slots.now ok.indexed.fragments;
      within = (operation_placed d.stored whole operation s ok.there).0;
      alone = apart_from d.stored whole operation s ok.there;
    }

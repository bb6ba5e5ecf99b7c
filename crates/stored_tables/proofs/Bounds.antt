-- Rows up to the next bound of a range: they are in the same ranges.
use Rattle.std.proofs.Common.{◌≡◌, ℕ, ◌+◌, ◌<◌, ◌≤◌, Bool, true, false, cond, not, eqb, leb, List, [], ◌∷◌, count_by, Some, None, Option, sym, refl, ap, ◌∙◌, arith}
use Rattle.std.proofs.lemmas.Bool.{leb-false}
use Rattle.std.proofs.lemmas.Bool.Decides.{nat_tests}
use Rattle.std.proofs.lemmas.List.Sums.{sum_by-cons}
use Rattle.stored_tables.specs.declared.definition.StoredDefinition.{StoredDefinition}
use Rattle.stored_tables.specs.Verdict.{holds, stray, alone, all_stored}
use Rattle.stored_tables.specs.Ranges.{InOrder, from_row, bound_behind, first_bound}
use Rattle.stored_tables.proofs.Following.{Left, none_hold, left_count, held_in_all}

module _ (rows row : ℕ) where
  -- a bound lies behind the row, and within the rows
  pub bound_ahead : (ds : List StoredDefinition) → row < rows → row < first_bound row rows ds
  bound_ahead [] low = low
  bound_ahead (d ∷ ds) low = grind (arith, nat_tests)

  pub bound_within : (ds : List StoredDefinition) → first_bound row rows ds ≤ rows
  bound_within [] = omega arith
  bound_within (d ∷ ds) = grind (arith, nat_tests)

  module _ (k : ℕ) (low : row ≤ k) where
    same_holds : (d : StoredDefinition) → k < bound_behind row rows d → holds k d ≡ holds row d
    same_holds d high = grind (arith, nat_tests)

    not_ended : (d : StoredDefinition) → d.row.first ≤ d.row.end → row < d.row.end → k < bound_behind row rows d → k < d.row.end
    not_ended d ordered ahead high = grind (arith, nat_tests)

    same_step : (b : Bool) (s : ℕ) (d : StoredDefinition) (ds rest : List StoredDefinition) → b ≡ leb d.row.end row → InOrder rows s (d ∷ ds)
        → (k < first_bound row rows rest → count_by (holds k) rest ≡ count_by (holds row) rest)
        → k < first_bound row rows (cond b rest (d ∷ ds)) → count_by (holds k) (cond b rest (d ∷ ds)) ≡ count_by (holds row) (cond b rest (d ∷ ds))
    same_step true s d ds rest is order same high = same high
    same_step false s d ds rest is order same high =
        let ahead = leb-false d.row.end row (sym is) in
        let behind = not_ended d order.1.ordered ahead high in
        let off = none_hold rows row d.row.end ds ahead order.2 in
        let off′ = none_hold rows k d.row.end ds behind order.2 in
        let parts = sum_by-cons (λ (x : StoredDefinition). cond {A = ℕ} (holds row x) 1 0) d ds in
        let parts′ = sum_by-cons (λ (x : StoredDefinition). cond {A = ℕ} (holds k x) 1 0) d ds in
        let here : cond {A = ℕ} (holds k d) 1 0 ≡ cond (holds row d) 1 0 = ap (λ b. cond b 1 0) (same_holds d high) in
        omega (arith, parts, parts′, here, off, off′)

    same_first : (s : ℕ) (ds : List StoredDefinition) → InOrder rows s ds → k < first_bound row rows (from_row row ds) → count_by (holds k) (from_row row ds) ≡ count_by (holds row) (from_row row ds)
    same_first s [] order high = refl
    same_first s (d ∷ ds) order high = same_step (leb d.row.end row) s d ds (from_row row ds) refl order (same_first d.row.end ds order.2) high

    -- a table holds as often a row before the next bound of what is left of it
    pub same_count : (all left rest : List StoredDefinition) → rest ≡ from_row row left → Left rows row all left → k < first_bound row rows rest → count_by (holds k) all ≡ count_by (holds row) all
    same_count all left rest is at high =
        sym (left_count rows row k left low ∙ at.counts k low)
        ∙ same_first 0 left at.order (rw (← is) high)
        ∙ left_count rows row row left (omega arith) ∙ at.counts row (omega arith)

    pub same_alone : (anonymous : Option StoredDefinition) → k < first_bound row rows (alone anonymous) → count_by (holds k) (alone anonymous) ≡ count_by (holds row) (alone anonymous)
    same_alone None high = refl
    same_alone (Some d) high = ap (λ b. 0 + cond {A = ℕ} b 1 0) (same_holds d high)

    pub same_stray : (anonymous : Option StoredDefinition) (operations fragments : List StoredDefinition) → count_by (holds k) operations ≡ count_by (holds row) operations
        → count_by (holds k) fragments ≡ count_by (holds row) fragments → count_by (holds k) (alone anonymous) ≡ count_by (holds row) (alone anonymous)
        → stray (all_stored anonymous operations fragments) k ≡ stray (all_stored anonymous operations fragments) row
    same_stray anonymous operations fragments x y z =
        let at = held_in_all row anonymous operations fragments _ _ _ refl refl refl in
        let at′ = held_in_all k anonymous operations fragments _ _ _ refl refl refl in
        ap (λ n. not (eqb n 1)) (omega (arith, at, at′))

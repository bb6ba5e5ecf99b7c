-- Ranges that follow one another: of what is left of them, only the first can hold a row.
use Rattle.std.proofs.Common.{◌≡◌, ℕ, zero, suc, ◌+◌, ◌<◌, ◌≤◌, Bool, true, false, cond, leb, List, [], ◌∷◌, ◌++◌, length, get_or, take, count_by, None, Option, sym, refl, ap, ◌∙◌, arith}
use Rattle.std.proofs.lemmas.Bool.{leb-true, leb-false, ltb-false, or_parts}
use Rattle.std.proofs.lemmas.Bool.Decides.{nat_tests}
use Rattle.std.proofs.lemmas.List.Sums.{sum_by-cons, sum_by-append}
use Rattle.stored_tables.specs.declared.definition.StoredDefinition.{StoredDefinition}
use Rattle.stored_tables.specs.Verdict.{first_place, misplaced, definition_at, end_before, broken_definition, holds, alone, all_stored}
use Rattle.stored_tables.proofs.Places.{no_place}
use Rattle.stored_tables.specs.Ranges.{Placed, InOrder, from_row}

-- ranges in order may begin earlier
pub in_order_from : (rows s t : ℕ) (ds : List StoredDefinition) → t ≤ s → InOrder rows s ds → InOrder rows t ds
in_order_from rows s t [] low order = tt
in_order_from rows s t (d ∷ ds) low order = (omega (arith, order.0), order.1, order.2)

-- each lies within the rows
pub placed_at : (rows s : ℕ) (ds : List StoredDefinition) (i : ℕ) (d : StoredDefinition) → InOrder rows s ds → i < length ds → Placed rows (get_or ds i d)
placed_at rows s [] i d order low = absurd (omega arith)
placed_at rows s (e ∷ ds) zero d order low = order.1
placed_at rows s (e ∷ ds) (suc i) d order low = placed_at rows e.row.end ds i d order.2 (omega arith)

pub held_later : (row : ℕ) (d : StoredDefinition) → row < d.row.first → holds row d ≡ false
held_later row d low = grind (arith, nat_tests)

pub held_before : (row : ℕ) (d : StoredDefinition) → d.row.end ≤ row → holds row d ≡ false
held_before row d high = grind (arith, nat_tests)

pub holds_inside : (row : ℕ) (d : StoredDefinition) → d.row.first ≤ row → row < d.row.end → holds row d ≡ true
holds_inside row d low high = grind (arith, nat_tests)

-- where a definition passes, they are counted
pub counted_at : (p : StoredDefinition → Bool) (ds : List StoredDefinition) (i : ℕ) → i < length ds → p (definition_at ds i) ≡ true → 1 ≤ count_by p ds
counted_at p [] i low here = absurd (omega arith)
counted_at p (d ∷ ds) zero low here =
    let c = sum_by-cons (λ (x : StoredDefinition). cond {A = ℕ} (p x) 1 0) d ds in
    let one : cond {A = ℕ} (p d) 1 0 ≡ 1 = ap (λ b. cond b 1 0) here in
    omega (arith, c, one)
counted_at p (d ∷ ds) (suc i) low here =
    let c = sum_by-cons (λ (x : StoredDefinition). cond {A = ℕ} (p x) 1 0) d ds in
    let later = counted_at p ds i (omega arith) here in
    omega (arith, c, later)

-- a row before them is in none
pub none_hold : (rows row s : ℕ) (ds : List StoredDefinition) → row < s → InOrder rows s ds → count_by (holds row) ds ≡ 0
none_hold rows row s [] low order = refl
none_hold rows row s (d ∷ ds) low order =
    let off = held_later row d (omega (arith, order.0)) in
    rw off (none_hold rows row d.row.end ds (omega (arith, order.0, order.1.ordered)) order.2)

module _ (rows row : ℕ) where
  order_step : (b : Bool) (s : ℕ) (d : StoredDefinition) (ds rest : List StoredDefinition) → InOrder rows s (d ∷ ds) → InOrder rows d.row.end rest → InOrder rows s (cond b rest (d ∷ ds))
  order_step true s d ds rest order later = in_order_from rows d.row.end s rest (omega (arith, order.0, order.1.ordered)) later
  order_step false s d ds rest order later = order

  -- what is left is in order
  pub left_in_order : (s : ℕ) (ds : List StoredDefinition) → InOrder rows s ds → InOrder rows s (from_row row ds)
  left_in_order s [] order = tt
  left_in_order s (d ∷ ds) order = order_step (leb d.row.end row) s d ds (from_row row ds) order (left_in_order d.row.end ds order.2)

  count_step : (b : Bool) (k : ℕ) (d : StoredDefinition) (ds rest : List StoredDefinition) → b ≡ leb d.row.end row → row ≤ k → count_by (holds k) rest ≡ count_by (holds k) ds
      → count_by (holds k) (cond b rest (d ∷ ds)) ≡ count_by (holds k) (d ∷ ds)
  count_step true k d ds rest is low same =
      let past = leb-true d.row.end row (sym is) in
      let off = held_before k d (omega arith) in
      rw off same
  count_step false k d ds rest is low same = refl

  -- a row from here on is in as many of what is left as of all
  pub left_count : (k : ℕ) (ds : List StoredDefinition) → row ≤ k → count_by (holds k) (from_row row ds) ≡ count_by (holds k) ds
  left_count k [] low = refl
  left_count k (d ∷ ds) low = count_step (leb d.row.end row) k d ds (from_row row ds) refl low (left_count k ds low)

  first_step : (b : Bool) (s : ℕ) (d : StoredDefinition) (ds rest : List StoredDefinition) → b ≡ leb d.row.end row → InOrder rows s (d ∷ ds)
      → count_by (holds row) (take 1 rest) ≡ count_by (holds row) rest → count_by (holds row) (take 1 (cond b rest (d ∷ ds))) ≡ count_by (holds row) (cond b rest (d ∷ ds))
  first_step true s d ds rest is order same = same
  first_step false s d ds rest is order same =
      let ahead = leb-false d.row.end row (sym is) in
      let off = none_hold rows row d.row.end ds (omega arith) order.2 in
      let parts = sum_by-cons (λ (x : StoredDefinition). cond (holds row x) 1 0) d ds in
      omega (arith, off, parts)

  -- this row is in none but the first of what is left
  pub left_first : (s : ℕ) (ds : List StoredDefinition) → InOrder rows s ds → count_by (holds row) (take 1 (from_row row ds)) ≡ count_by (holds row) (from_row row ds)
  left_first s [] order = refl
  left_first s (d ∷ ds) order = first_step (leb d.row.end row) s d ds (from_row row ds) refl order (left_first d.row.end ds order.2)

-- where the definition before the one at a place ends, if the first may begin at s
abbrev pub end_from : ℕ → List StoredDefinition → ℕ → ℕ
end_from s ds zero = s
end_from s ds (suc i) = (definition_at ds i).row.end

-- what a range in place says
pub record InPlace (start rows : ℕ) (d : StoredDefinition) : Type 0 where
  pub from : start ≤ d.row.first
  pub placed : Placed rows d

pub in_place : (start rows : ℕ) (d : StoredDefinition) → misplaced start rows d ≡ false → InPlace start rows d
in_place start rows d is =
    let a = or_parts _ _ is in
    let b = or_parts _ _ a.1 in
    record { from = ltb-false _ _ a.0; placed = record { ordered = ltb-false _ _ b.0; within = ltb-false _ _ b.1 } }

pub later_end : (s : ℕ) (d : StoredDefinition) (ds : List StoredDefinition) (i : ℕ) → end_from s (d ∷ ds) (suc i) ≡ end_from d.row.end ds i
later_end s d ds zero = refl
later_end s d ds (suc i) = refl

chained : (rows s : ℕ) (ds : List StoredDefinition) → ((i : ℕ) → i < length ds → misplaced (end_from s ds i) rows (definition_at ds i) ≡ false) → InOrder rows s ds
chained rows s [] each = tt
chained rows s (d ∷ ds) each =
    let here = in_place s rows d (each 0 (omega arith)) in (
      here.from,
      here.placed,
      chained rows d.row.end ds (λ i low. ap (λ e. misplaced e rows (definition_at ds i)) (sym (later_end s d ds i)) ∙ each (suc i) (omega arith)),
    )

pub before_is : (ds : List StoredDefinition) (i : ℕ) → end_before ds i ≡ end_from 0 ds i
before_is ds zero = refl
before_is ds (suc i) = refl

-- definitions of which none is out of place follow one another
pub in_order : (rows : ℕ) (ds : List StoredDefinition) → ((i : ℕ) → i < length ds → misplaced (end_before ds i) rows (definition_at ds i) ≡ false) → InOrder rows 0 ds
in_order rows ds each = chained rows 0 ds (λ i low. ap (λ e. misplaced e rows (definition_at ds i)) (sym (before_is ds i)) ∙ each i low)

-- what is left of a table, once the rows before `row` were looked up
pub record Left (rows row : ℕ) (all left : List StoredDefinition) : Type 0 where
  pub order : InOrder rows 0 left
  pub counts : (k : ℕ) → row ≤ k → count_by (holds k) left ≡ count_by (holds k) all

-- the rows up to a later one are looked up: in so many of all definitions it is
pub left_on : (rows row next : ℕ) (all left rest : List StoredDefinition) → row ≤ next → rest ≡ from_row row left → Left rows row all left → Left rows next all rest
left_on rows row next all left rest more is at =
    record {
      order = rw is (left_in_order rows row 0 left at.order);
      counts = λ k low. rw is (left_count rows row k left (omega arith) ∙ at.counts k (omega arith));
    }

pub left_held : (rows row : ℕ) (all left rest : List StoredDefinition) → rest ≡ from_row row left → Left rows row all left → count_by (holds row) (take 1 rest) ≡ count_by (holds row) all
left_held rows row all left rest is at =
    rw is (left_first rows row 0 left at.order ∙ left_count rows row row left (omega arith) ∙ at.counts row (omega arith))

-- a row is in so many ranges
pub held_in_all : (row : ℕ) (anonymous : Option StoredDefinition) (operations fragments : List StoredDefinition) (a b c : ℕ)
    → a ≡ count_by (holds row) operations → b ≡ count_by (holds row) fragments → c ≡ count_by (holds row) (alone anonymous)
    → a + b + c ≡ count_by (holds row) (all_stored anonymous operations fragments)
held_in_all row anonymous operations fragments a b c x y z =
    let outer : count_by (holds row) (operations ++ (fragments ++ alone anonymous)) ≡ count_by (holds row) operations + count_by (holds row) (fragments ++ alone anonymous) =
    sum_by-append (λ d. cond (holds row d) 1 0) operations (fragments ++ alone anonymous) in
    let inner : count_by (holds row) (fragments ++ alone anonymous) ≡ count_by (holds row) fragments + count_by (holds row) (alone anonymous) =
    sum_by-append (λ d. cond (holds row d) 1 0) fragments (alone anonymous) in
    omega arith

-- a table without a definition that breaks the layout
pub clean_in_order : (whole : StoredDefinition → Bool) (rows : ℕ) (ds : List StoredDefinition) → first_place (broken_definition whole rows ds) 0 (length ds) ≡ None → InOrder rows 0 ds
clean_in_order whole rows ds none =
    in_order rows ds
    (λ i low.
    let fine : broken_definition whole rows ds i ≡ false = ap (broken_definition whole rows ds) (omega arith) ∙ no_place (broken_definition whole rows ds) 0 (length ds) none i low in
    (or_parts _ _ (or_parts _ _ fine).1).0)

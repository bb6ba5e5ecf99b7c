-- Where kept rows and kept definitions stand in the tables.
use Rattle.std.proofs.Common.{◌≡◌, ℕ, zero, suc, ◌+◌, ◌<◌, Bool, true, false, cond, List, [], ◌∷◌, map, length, take, filter, sym, refl, ap, ◌∙◌, subst, ⊎_elim, arith}
use Rattle.std.specs.List.{Contains, range_with_len}
use Rattle.std.specs.List.Sorted.{IsStrictlyIncreasing}
use Rattle.std.proofs.lemmas.List.{map-append}
use Rattle.std.proofs.lemmas.List.Kept.{IsStrictlyIncreasing-filter}
use Rattle.std.proofs.lemmas.List.FromFn.{length-range_with_len, get_or-range_with_len}
use Rattle.layout.specs.Forest.{Forest, none, row, size, flatten}
use Rattle.selection_rules.specs.Stored.{Stored, stored_row, stored_of}
use Rattle.building_rules.specs.Definitions.{Kept, Role, role_of}
use Rattle.building_rules.specs.Bounds.{rows_kept}
use Rattle.stored_tables.specs.declared.definition.StoredDefinition.{StoredDefinition}
use Rattle.stored_tables.specs.Layout.{laid_out, rows_of, those_of}
use Rattle.finished_rules.specs.Reaches.{in_order, kept_rows, kept_at}
use Rattle.finished_rules.specs.Numbers.{entry, has_role, Numbered}
use Rattle.finished_rules.proofs.Elements.{none_there, here_or_later, in_filter, out_of_filter}

-- Rows

flat_rows : (s : ℕ) (f : Forest Stored) → map stored_of (flatten stored_row s f) ≡ in_order f
flat_rows s none = refl
flat_rows s (row x below after) =
    let a = flat_rows (suc s) below in
    let b = flat_rows (suc s + size below) after in
    ap (λ (l : List Stored). x ∷ l) (map-append stored_of (flatten stored_row (suc s) below) (flatten stored_row (suc s + size below) after) ∙ rw (a, b) refl)

pub table_rows : (s : ℕ) (ks : List Kept) → map stored_of (rows_of s ks) ≡ kept_rows ks
table_rows s [] = refl
table_rows s (k ∷ ks) =
    let a = flat_rows s k.rows in
    let b = table_rows (s + size k.rows) ks in
    map-append stored_of (flatten stored_row s k.rows) (rows_of (s + size k.rows) ks) ∙ rw (a, b) refl

-- Ranges

pub range_end : (ks : List Kept) (n : ℕ) → n < length ks → (entry ks n).row.end ≡ rows_kept (take (suc n) ks)
range_end [] n low = absurd (omega arith)
range_end (k ∷ ks) zero low = omega arith
range_end (k ∷ ks) (suc n) low = let rest = range_end ks n (omega arith) in omega (arith, rest)

-- Numbers

-- the number of the first is a, and `at` and `start` tell each one's definition and where its rows begin
record Counts (a s : ℕ) (ks : List Kept) (at : ℕ → Kept) (start : ℕ → ℕ) : Type 0 where
  definitions : (i : ℕ) → i < length ks → at (a + i) ≡ kept_at ks i
  starts : (i : ℕ) → i < length ks → start (a + i) ≡ s + rows_kept (take i ks)

counts_next : (a s : ℕ) (k : Kept) (ks : List Kept) (at : ℕ → Kept) (start : ℕ → ℕ) → Counts a s (k ∷ ks) at start → Counts (a + 1) (s + size k.rows) ks at start
counts_next a s k ks at start c =
    record {
      definitions = λ i low. let more : (a + 1) + i ≡ a + suc i = omega arith in ap at more ∙ c.definitions (suc i) (omega arith);
      starts = λ i low. let more : (a + 1) + i ≡ a + suc i = omega arith in ap start more ∙ c.starts (suc i) (omega arith) ∙ omega arith;
    }

module _ (test : Role → Bool) (at : ℕ → Kept) (start : ℕ → ℕ) where
  entry_step : (b : Bool) (d : StoredDefinition) (n : ℕ) (ds : List StoredDefinition) (ns : List ℕ) → d ≡ laid_out (start n) (at n) → ds ≡ map (λ i. laid_out (start i) (at i)) ns
      → cond b (d ∷ ds) ds ≡ map (λ i. laid_out (start i) (at i)) (cond b (n ∷ ns) ns)
  entry_step true d n ds ns is are = rw (is, are) refl
  entry_step false d n ds ns is are = are

  those_numbered : (a s : ℕ) (ks : List Kept) → Counts a s ks at start
      → those_of test s ks ≡ map (λ i. laid_out (start i) (at i)) (filter (λ i. test (role_of (at i).head)) (range_with_len a (length ks)))
  those_numbered a s [] c = refl
  those_numbered a s (k ∷ ks) c =
      let zero_more : a + 0 ≡ a = omega arith in
      let own : at a ≡ k = ap at (sym zero_more) ∙ c.definitions 0 (omega arith) in
      let begins : start a ≡ s = ap start (sym zero_more) ∙ c.starts 0 (omega arith) ∙ omega arith in
      let rest = those_numbered (a + 1) (s + size k.rows) ks (counts_next a s k ks at start c) in
      let one : laid_out s k ≡ laid_out (start a) (at a) = rw (own, begins) refl in
      let role : test (role_of (at a).head) ≡ test (role_of k.head) = ap (λ x. test (role_of x.head)) own in
      entry_step (test (role_of k.head)) (laid_out s k) a (those_of test (s + size k.rows) ks) (filter (λ i. test (role_of (at i).head)) (range_with_len (a + 1) (length ks))) one rest
      ∙ ap (λ b. map (λ i. laid_out (start i) (at i)) (cond b (a ∷ filter (λ i. test (role_of (at i).head)) (range_with_len (a + 1) (length ks))) (filter (λ i. test (role_of (at i).head)) (range_with_len (a + 1) (length ks))))) (sym role)

in_range : (a n i : ℕ) → i < n → Contains (range_with_len a n) (a + i)
in_range a n i low =
    (i, (let long = length-range_with_len a n in omega (arith, long)), get_or-range_with_len a n i (a + i) low)

of_range : (a n x : ℕ) → Contains (range_with_len a n) x → x < a + n
of_range a zero x at = none_there x at
of_range a (suc n) x at =
    ⊎_elim (λ (e : a ≡ x). omega arith) (λ rest. let low = of_range (a + 1) n x rest in omega (arith, low)) (here_or_later a x (range_with_len (a + 1) n) at)

range_rises : (a n : ℕ) → IsStrictlyIncreasing (range_with_len a n)
range_rises a n k low =
    let long = length-range_with_len a n in
    let one = get_or-range_with_len a n k 0 (omega (arith, long)) in
    let two = get_or-range_with_len a n (k + 1) 0 (omega (arith, long)) in
    omega (arith, one, two)

pub numbered : (test : Role → Bool) (ks : List Kept) → Numbered test ks
numbered test ks =
    record {
      entries = those_numbered test (kept_at ks) (λ n. rows_kept (take n ks)) 0 0 ks
          (record {
            definitions = λ i low. ap (kept_at ks) (omega arith);
            starts = λ i low. let same : 0 + i ≡ i = omega arith in let begins = ap (λ (n : ℕ). rows_kept (take n ks)) same in omega (arith, begins);
          });
      each = λ n. (
        λ at. let two = out_of_filter (has_role test ks) (range_with_len 0 (length ks)) n at in let low = of_range 0 (length ks) n two.0 in (omega (arith, low), two.1),
        λ two. in_filter (has_role test ks) (range_with_len 0 (length ks)) n (subst (Contains (range_with_len 0 (length ks))) (omega arith) (in_range 0 (length ks) n two.0)) two.1,
      );
      rising = IsStrictlyIncreasing-filter (has_role test ks) (range_with_len 0 (length ks)) (range_rises 0 (length ks));
    }

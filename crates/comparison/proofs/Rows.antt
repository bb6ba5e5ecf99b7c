-- Two sets are the same exactly where there are as many rows in both, and each agrees with its counterpart: in its members,
-- and in how far from the first row of its set it ends.
use Rattle.std.proofs.Common.{◌≡◌, ℕ, zero, suc, ◌+◌, ◌-◌, ◌<◌, List, [], ◌∷◌, ◌++◌, length, get_or, take, drop, refl, ap, ◌∙◌, arith}
use Rattle.std.specs.List.{AllZip}
use Rattle.std.proofs.lemmas.List.{take_at}
use Rattle.std.proofs.lemmas.List.Elements.{AllZip-get_or, length_all_zip}
use Rattle.layout.specs.Forest.{Forest, none, row, size, flatten}
use Rattle.layout.specs.Shapes.{Stand, forest_in}
use Rattle.layout.proofs.Tables.{forest_read, length-flatten}
use Rattle.selection_rules.specs.declared.stored.StoredRow.{StoredRow}
use Rattle.selection_rules.specs.Stored.{Stored, stored_of, stored_row, stored_selections}
use Rattle.finished_rules.specs.SameTables.{SameStored, SameSets}
use Rattle.comparison.specs.Ranged.{Ranged}

abbrev pub set_in : List StoredRow → ℕ → ℕ → Forest Stored
set_in rows i e = forest_in stored_selections rows i e

-- the rows from i up to e
abbrev pub range : List StoredRow → ℕ → ℕ → List StoredRow
range rows i e = take (e - i) (drop i rows)

-- two rows agree, of sets whose first rows stand at s and t
pub record Agree (s t : ℕ) (x y : StoredRow) : Type 0 where
  pub row : SameStored (stored_of x) (stored_of y)
  pub end : x.selection.end + t ≡ y.selection.end + s

module _ {A : Type 0} (R : A → A → Type 0) where
  both : (xs ys us vs : List A) → AllZip R xs ys → AllZip R us vs → AllZip R (xs ++ us) (ys ++ vs)
  both [] [] us vs p q = q
  both [] (y ∷ ys) us vs p q = absurd p
  both (x ∷ xs) [] us vs p q = absurd p
  both (x ∷ xs) (y ∷ ys) us vs p q = (p.0, both xs ys us vs p.1 q)

  parts : (xs ys us vs : List A) → length xs ≡ length ys → AllZip R (xs ++ us) (ys ++ vs) → AllZip R xs ys × AllZip R us vs
  parts [] [] us vs e p = (tt, p)
  parts [] (y ∷ ys) us vs e p = absurd (omega arith)
  parts (x ∷ xs) [] us vs e p = absurd (omega arith)
  parts (x ∷ xs) (y ∷ ys) us vs e p = let more = parts xs ys us vs (omega arith) p.1 in ((p.0, more.0), more.1)

  each_then : (xs ys : List A) (d : A) → length xs ≡ length ys → ((k : ℕ) → k < length xs → R (get_or xs k d) (get_or ys k d)) → AllZip R xs ys
  each_then [] [] d e each = tt
  each_then [] (y ∷ ys) d e each = absurd (omega arith)
  each_then (x ∷ xs) [] d e each = absurd (omega arith)
  each_then (x ∷ xs) (y ∷ ys) d e each = (each zero (omega arith), each_then xs ys d (omega arith) (λ k low. each (suc k) (omega arith)))

as_large : (f g : Forest Stored) → SameSets f g → size f ≡ size g
as_large none none same = refl
as_large none (row b under beyond) same = absurd same
as_large (row a below after) none same = absurd same
as_large (row a below after) (row b under beyond) same =
    let p = as_large below under same.1 in
    let q = as_large after beyond same.2 in
    omega arith

module _ (s t : ℕ) where
  rows_agree : (i j : ℕ) (f g : Forest Stored) → i + t ≡ j + s → SameSets f g → AllZip (Agree s t) (flatten stored_row i f) (flatten stored_row j g)
  rows_agree i j none none far same = tt
  rows_agree i j none (row b under beyond) far same = absurd same
  rows_agree i j (row a below after) none far same = absurd same
  rows_agree i j (row a below after) (row b under beyond) far same =
      let large = as_large below under same.1 in (
        record { row = same.0; end = omega arith },
        both (Agree s t) (flatten stored_row (suc i) below) (flatten stored_row (suc j) under) (flatten stored_row (suc i + size below) after) (flatten stored_row (suc j + size under) beyond)
            (rows_agree (suc i) (suc j) below under (omega arith) same.1) (rows_agree (suc i + size below) (suc j + size under) after beyond (omega arith) same.2),
      )

  sets_same : (i j : ℕ) (f g : Forest Stored) → i + t ≡ j + s → AllZip (Agree s t) (flatten stored_row i f) (flatten stored_row j g) → SameSets f g
  sets_same i j none none far agree = tt
  sets_same i j none (row b under beyond) far agree = absurd agree
  sets_same i j (row a below after) none far agree = absurd agree
  sets_same i j (row a below after) (row b under beyond) far agree =
      let ends : (suc i + size below) + t ≡ (suc j + size under) + s = agree.0.end in
      let long-a = length-flatten stored_row (suc i) below in
      let long-b = length-flatten stored_row (suc j) under in
      let both = parts (Agree s t) (flatten stored_row (suc i) below) (flatten stored_row (suc j) under) (flatten stored_row (suc i + size below) after) (flatten stored_row (suc j + size under) beyond) (omega arith) agree.1 in
      (agree.0.row, sets_same (suc i) (suc j) below under (omega arith) both.0, sets_same (suc i + size below) (suc j + size under) after beyond ends both.1)

-- the rows in a range are those of the forest that stands there
range_rows : (rows : List StoredRow) (i e : ℕ) (f : Forest Stored) → Stand stored_selections rows i e f → range rows i e ≡ flatten stored_row i f
range_rows rows i e f w =
    let gap : e - i ≡ size f = omega (arith, w.ends) in
    ap (λ (k : ℕ). take k (drop i rows)) gap ∙ ap (take (size f)) w.reads ∙ take_at _ _ (size f) (length-flatten stored_row i f)

module _ (a : List StoredRow) (s ea : ℕ) (b : List StoredRow) (t eb : ℕ) (p : Ranged a s ea) (q : Ranged b t eb) where
  read-a : set_in a s ea ≡ p.forest
  read-a = forest_read stored_selections a s ea p.forest p.stand

  read-b : set_in b t eb ≡ q.forest
  read-b = forest_read stored_selections b t eb q.forest q.stand

  rows-a : range a s ea ≡ flatten stored_row s p.forest
  rows-a = range_rows a s ea p.forest p.stand

  rows-b : range b t eb ≡ flatten stored_row t q.forest
  rows-b = range_rows b t eb q.forest q.stand

  module _ (same : SameSets (set_in a s ea) (set_in b t eb)) where
    forests : SameSets p.forest q.forest
    forests = rw (read-a, read-b) at same

    all_agree : AllZip (Agree s t) (range a s ea) (range b t eb)
    all_agree = rw (rows-a, rows-b) (rows_agree s t s t p.forest q.forest (omega arith) forests)

    pub as_many : length (range a s ea) ≡ length (range b t eb)
    as_many = length_all_zip (Agree s t) (range a s ea) (range b t eb) all_agree

    -- two rows that stand equally far behind the first ones
    pub agree_at : (k : ℕ) (d x y : StoredRow) → k < length (range a s ea) → x ≡ get_or (range a s ea) k d → y ≡ get_or (range b t eb) k d → Agree s t x y
    agree_at k d x y low at-a at-b =
        rw (at-a, at-b) (AllZip-get_or (Agree s t) (range a s ea) (range b t eb) k d d all_agree low)

  pub same_if : (d : StoredRow) → length (range a s ea) ≡ length (range b t eb) → ((k : ℕ) → k < length (range a s ea) → Agree s t (get_or (range a s ea) k d) (get_or (range b t eb) k d)) → SameSets (set_in a s ea) (set_in b t eb)
  same_if d many each =
      let ranges : AllZip (Agree s t) (range a s ea) (range b t eb) = each_then (Agree s t) (range a s ea) (range b t eb) d many each in
      let agree : AllZip (Agree s t) (flatten stored_row s p.forest) (flatten stored_row t q.forest) = rw (rows-a, rows-b) at ranges in
      rw (read-a, read-b) (sets_same s t s t p.forest q.forest (omega arith) agree)

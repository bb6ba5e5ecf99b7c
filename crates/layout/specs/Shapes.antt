-- Rows of any type as the rows of a forest: a row is what it holds, and its end.
use Rattle.std.specs.Prelude.{◌≡◌, ℕ, zero, suc, ◌+◌, ◌-◌, ◌≤◌, Bool, true, false, List, [], ◌∷◌, ◌++◌, take, drop}
use Rattle.layout.specs.declared.row.RowView.{RowView}
use Rattle.layout.specs.Forest.{Forest, none, row, size, depth, flatten, Each}

-- how a row of type R holds an A and an end
pub record Shape (A R : Type 0) : Type 0 where
  pub close : A → ℕ → R
  pub bare : R → A
  pub end : R → ℕ
  pub bare_close : (a : A) (e : ℕ) → bare (close a e) ≡ a
  pub end_close : (a : A) (e : ℕ) → end (close a e) ≡ e
  pub close_bare : (r : R) → close (bare r) (end r) ≡ r

-- the rules of what a row holds: whether a needed name is missing, whether another member breaks its rule, and whether
-- nothing may stand beneath it
pub record Rules (A : Type 0) : Type 0 where
  pub unnamed : A → Bool
  pub broken : A → Bool
  pub leaf : A → Bool

-- what the layout sees of a row
abbrev pub view_of : {A R : Type 0} → Shape A R → Rules A → R → RowView
view_of h rules r =
    record { end = h.end r; leaf = rules.leaf (h.bare r); unnamed = rules.unnamed (h.bare r); broken = rules.broken (h.bare r) }

-- a row keeps the rules over what stands beneath it
pub record Keeps {A : Type 0} (rules : Rules A) (a : A) (below : Forest A) : Type 0 where
  pub named : rules.unnamed a ≡ false
  pub whole : rules.broken a ≡ false
  pub leaf : rules.leaf a ≡ true → size below ≡ 0

-- from i up to e the rows are those of f
pub record Stand {A R : Type 0} (h : Shape A R) (rows : List R) (i e : ℕ) (f : Forest A) : Type 0 where
  pub ends : e ≡ i + size f
  pub reads : drop i rows ≡ flatten h.close i f ++ drop e rows

-- they are those of f, each keeps the rules, and at most `room` stand one beneath the other
pub record Lawful {A R : Type 0} (h : Shape A R) (rules : Rules A) (rows : List R) (i e room : ℕ) (f : Forest A) : Type 0 where
  pub stand : Stand h rows i e f
  pub keeps : Each (Keeps rules) f
  pub shallow : depth f ≤ room

abbrev pub read : {A R : Type 0} → Shape A R → ℕ → ℕ → List R → Forest A
read h zero s rs = none
read h (suc k) s [] = none
read h (suc k) s (r ∷ rs) =
    row (h.bare r) (read h k (suc s) (take (h.end r - suc s) rs)) (read h k (h.end r) (drop (h.end r - suc s) rs))

-- the forest whose rows stand from i up to e
unfoldable pub forest_in : {A R : Type 0} → Shape A R → List R → ℕ → ℕ → Forest A
forest_in h rows i e = read h (e - i) i (take (e - i) (drop i rows))

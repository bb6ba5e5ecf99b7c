-- The forest of a range is the one whose rows stand there, and its first row opens it.
use Rattle.std.proofs.Common.{◌≡◌, ℕ, zero, suc, ◌+◌, ◌-◌, ◌<◌, ◌≤◌, List, ◌++◌, length, get_or, take, drop, sym, refl, ap, ◌∙◌, append_assoc, add-one, arith}
use Rattle.std.proofs.lemmas.List.{take_at, drop_at, drop-drop, drop_more, length-append}
use Rattle.layout.specs.Forest.{Forest, none, row, size, flatten}
use Rattle.layout.specs.Shapes.{Shape, Stand, read, forest_in}

pub length-flatten : {A R : Type 0} (close : A → ℕ → R) (s : ℕ) (f : Forest A) → length (flatten close s f) ≡ size f
length-flatten close s none = refl
length-flatten close s (row a below after) =
    let b = length-flatten close (suc s) below in
    let c = length-flatten close (suc s + size below) after in
    ap suc (length-append (flatten close (suc s) below) (flatten close (suc s + size below) after) ∙ omega arith)

-- what is known of the first row of a set
pub record Opened {A R : Type 0} (h : Shape A R) (rows : List R) (i e : ℕ) (r : R) (f : Forest A) : Type 0 where
  pub below : Forest A
  pub after : Forest A
  pub is : f ≡ row (h.bare r) below after
  pub beneath : Stand h rows (i + 1) (h.end r) below
  pub beyond : Stand h rows (h.end r) e after
  pub low : i < h.end r
  pub high : h.end r ≤ e

module _ {A R : Type 0} (h : Shape A R) where
  pub read-flatten : (k s : ℕ) (f : Forest A) → size f ≤ k → read h k s (flatten h.close s f) ≡ f
  read-flatten zero s none l = refl
  read-flatten (suc k) s none l = refl
  read-flatten zero s (row a below after) l = absurd (omega arith)
  read-flatten (suc k) s (row a below after) l =
      let gap : (suc s + size below) - suc s ≡ size below = omega arith in
      let long = length-flatten h.close (suc s) below in
      let b = read-flatten k (suc s) below (omega arith) in
      let c = read-flatten k (suc s + size below) after (omega arith) in
      let ts = take_at (flatten h.close (suc s) below) (flatten h.close (suc s + size below) after) (size below) long in
      let ds = drop_at (flatten h.close (suc s) below) (flatten h.close (suc s + size below) after) (size below) long in
      rw (h.bare_close a (suc s + size below), h.end_close a (suc s + size below), gap, ts, ds, b, c) refl

  pub forest_read : (rows : List R) (i e : ℕ) (f : Forest A) → Stand h rows i e f → forest_in h rows i e ≡ f
  unfolding forest_in
  forest_read rows i e f w =
      let gap : e - i ≡ size f = omega (arith, w.ends) in
      let t : take (size f) (drop i rows) ≡ flatten h.close i f =
      ap (take (size f)) w.reads ∙ take_at _ _ (size f) (length-flatten h.close i f)
      in
      rw (gap, t) (read-flatten (size f) i f (omega arith))

  opened_row : (rows : List R) (i e : ℕ) (d : R) (a : A) (below after : Forest A) → i < length rows → Stand h rows i e (row a below after) → Opened h rows i e (get_or rows i d) (row a below after)
  opened_row rows i e d a below after k w =
      let r = get_or rows i d in
      let all = sym (drop_more rows i d k) ∙ w.reads in
      let head : r ≡ h.close a (suc i + size below) = cc in
      let ends : h.end r ≡ suc i + size below = ap h.end head ∙ h.end_close a (suc i + size below) in
      let bare : h.bare r ≡ a = ap h.bare head ∙ h.bare_close a (suc i + size below) in
      let tail : drop (i + 1) rows ≡ (flatten h.close (suc i) below ++ flatten h.close (suc i + size below) after) ++ drop e rows = cc in
      let tail' : drop (i + 1) rows ≡ flatten h.close (suc i) below ++ (flatten h.close (suc i + size below) after ++ drop e rows) =
      tail ∙ append_assoc (flatten h.close (suc i) below) (flatten h.close (suc i + size below) after) (drop e rows)
      in
      let one : i + 1 ≡ suc i = add-one i in
      let far : drop (suc i + size below) rows ≡ flatten h.close (suc i + size below) after ++ drop e rows =
      sym (drop-drop (size below) (suc i) rows) ∙ ap (λ (k : ℕ). drop (size below) (drop k rows)) (sym one) ∙ ap (drop (size below)) tail' ∙ drop_at _ _ (size below) (length-flatten h.close (suc i) below)
      in
      record {
        below = below;
        after = after;
        is = rw bare refl;
        beneath = record { ends = omega arith; reads = rw (ends, far) (tail' ∙ ap (λ (k : ℕ). flatten h.close k below ++ (flatten h.close (suc i + size below) after ++ drop e rows)) (sym one)) };
        beyond = record { ends = omega (arith, w.ends); reads = rw ends far };
        low = omega arith;
        high = omega (arith, w.ends);
      }

  pub opened : (rows : List R) (i e : ℕ) (d : R) (f : Forest A) → i < e → i < length rows → Stand h rows i e f → Opened h rows i e (get_or rows i d) f
  opened rows i e d none l k w = absurd (omega (arith, w.ends))
  opened rows i e d (row a below after) l k w = opened_row rows i e d a below after k w

  -- the other way: a row before what stands beneath it and what comes after
  pub joined : (rows : List R) (i e : ℕ) (d : R) (below after : Forest A) → i < length rows → Stand h rows (i + 1) (h.end (get_or rows i d)) below → Stand h rows (h.end (get_or rows i d)) e after → Stand h rows i e (row (h.bare (get_or rows i d)) below after)
  joined rows i e d below after k b c =
      let r = get_or rows i d in
      let one : i + 1 ≡ suc i = add-one i in
      let end : h.end r ≡ suc i + size below = omega (arith, b.ends) in
      let far : drop (h.end r) rows ≡ flatten h.close (suc i + size below) after ++ drop e rows =
      c.reads ∙ ap (λ (k : ℕ). flatten h.close k after ++ drop e rows) end
      in
      let shut : h.close (h.bare r) (suc i + size below) ≡ r = ap (h.close (h.bare r)) (sym end) ∙ h.close_bare r in
      let rest : drop (i + 1) rows ≡ (flatten h.close (suc i) below ++ flatten h.close (suc i + size below) after) ++ drop e rows =
      b.reads ∙ ap (λ (k : ℕ). flatten h.close k below ++ drop (h.end r) rows) one ∙ ap (λ (l : List R). flatten h.close (suc i) below ++ l) far ∙ sym (append_assoc (flatten h.close (suc i) below) (flatten h.close (suc i + size below) after) (drop e rows))
      in
      record { ends = omega (arith, c.ends, b.ends); reads = drop_more rows i d k ∙ rw (shut, rest) refl }

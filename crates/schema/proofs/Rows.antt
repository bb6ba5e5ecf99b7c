-- The row of the table of meta-fields that a search from the front finds.
use Rattle.std.proofs.Common.{◌≡◌, ℕ, zero, suc, ◌<◌, true, false, cond, List, [], ◌∷◌, length, Some, None, Option, Bor, refl, ap, sym, ◌∙◌, ◌==◌, arith}
use Rattle.std.specs.List.{AllWithin, HoldsAt}
use Rattle.std.specs.Option.{MatchOption, option_copied}
use Rattle.schema.specs.declared.meta.MetaField.{MetaField}
use Rattle.schema.specs.Meta.{row_of}

module _ (name : ℕ) where
  abbrev pub Is : MetaField → Type 0
  Is m = (m.name == name) ≡ true

  abbrev pub IsNot : MetaField → Type 0
  IsNot m = (m.name == name) ≡ false

  none : (ms : List MetaField) → AllWithin IsNot ms 0 (length ms) → row_of name ms ≡ None
  none [] all = refl
  none (m ∷ ms) all =
      ap (λ b. cond b (Some m) (row_of name ms)) (all 0 m (omega arith) (omega arith))
      ∙ none ms (λ k d low high. all (suc k) d (omega arith) (omega arith))

  some : (ms : List MetaField) (x : MetaField) (i : ℕ) → i < length ms → Is x → HoldsAt (λ y. y ≡ x) ms i → AllWithin IsNot ms 0 i → row_of name ms ≡ Some x
  some [] x i low is here before = absurd (omega arith)
  some (m ∷ ms) x zero low is here before =
      ap (λ b. cond b (Some m) (row_of name ms)) (ap (λ y. y.name == name) (here m) ∙ is) ∙ ap Some (here m)
  some (m ∷ ms) x (suc i) low is here before =
      ap (λ b. cond b (Some m) (row_of name ms)) (before 0 m (omega arith) (omega arith))
      ∙ some ms x i (omega arith) is here (λ k d l h. before (suc k) d (omega arith) (omega arith))

  pub row_of-first : (ms : List MetaField) (r : Option (Bor MetaField))
      → MatchOption r (AllWithin IsNot ms 0 (length ms)) (λ x. Is x.now × (i : ℕ) × (i < length ms) × HoldsAt (λ y. y ≡ x.now) ms i × AllWithin IsNot ms 0 i)
      → option_copied r ≡ row_of name ms
  row_of-first ms None is = sym (none ms is)
  row_of-first ms (Some x) (is, i, low, here, before) = sym (some ms x.now i low is here before)

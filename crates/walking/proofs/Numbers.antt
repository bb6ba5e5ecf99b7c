-- What the kind of a row says of it.
use Rattle.std.proofs.Common.{◌≡◌, ℕ, true, eqb, Some, None, ◌∙◌, eqb-true, arith}
use Rattle.document.specs.declared.kinds.SelectionKind.TheVariants.{Field, Spread, InlineFragment}
use Rattle.document.specs.Kinds.{selection_kind}

pub is_one : (k : ℕ) → selection_kind k ≡ Some Field → eqb k 1 ≡ true
is_one k is = grind arith

pub is_two : (k : ℕ) → selection_kind k ≡ Some Spread → eqb k 2 ≡ true
is_two k is = grind arith

pub one_not_two : (k : ℕ) → eqb k 1 ≡ true → eqb k 2 ≡ true → ⊥
one_not_two k one two = let a = eqb-true k 1 one in let b = eqb-true k 2 two in omega arith

pub one_is : (k : ℕ) → eqb k 1 ≡ true → selection_kind k ≡ Some Field
one_is k is = grind arith

pub two_is : (k : ℕ) → eqb k 2 ≡ true → selection_kind k ≡ Some Spread
two_is k is = grind arith

-- an inline fragment, and what has no kind, are neither
pub inline_no_field : (k : ℕ) → Some InlineFragment ≡ selection_kind k → eqb k 1 ≡ true → ⊥
inline_no_field k is one = let h = is ∙ one_is k one in grind arith

pub inline_no_spread : (k : ℕ) → Some InlineFragment ≡ selection_kind k → eqb k 2 ≡ true → ⊥
inline_no_spread k is two = let h = is ∙ two_is k two in grind arith

pub none_no_field : (k : ℕ) → None ≡ selection_kind k → eqb k 1 ≡ true → ⊥
none_no_field k is one = let h = is ∙ one_is k one in grind arith

pub none_no_spread : (k : ℕ) → None ≡ selection_kind k → eqb k 2 ≡ true → ⊥
none_no_spread k is two = let h = is ∙ two_is k two in grind arith

-- What holds of each slot holds at every place, since past the last a slot reads 0.
use Rattle.std.proofs.Common.{ℕ, ◌<◌, ◌≤◌, Bool, true, false, List, length, get_or, Decides, MatchBool, refl, ⊎_elim, rules, arith}
use Rattle.std.specs.List.{AllWithin, HoldsAt}
use Rattle.std.proofs.lemmas.Bool.{cases_lt, false≢true}
use Rattle.std.proofs.lemmas.List.{get_or_past}
use Rattle.std.proofs.lemmas.Iterator.{cases_from_all, YieldsList-from_slice}
use borrow.Author.Tests.{tests}
use Rattle.ordered_index.proofs.check.all_within.Goals as goal

within : (xs : List ℕ) (most : ℕ) (r : Bool)
    → MatchBool r (AllWithin (λ x. x ≤ most) xs 0 (length xs)) ((k : ℕ) × (k < length xs) × HoldsAt (λ x. most < x) xs k)
    → Decides r ((s : ℕ) → get_or xs s 0 ≤ most)
within xs most true all = (
  λ _ s.
      ⊎_elim
      (λ (low : s < length xs). all s 0 (omega arith) low)
      (λ (high : length xs ≤ s). omega (arith, get_or_past xs s 0 high))
      (cases_lt s (length xs)),
  λ _. refl,
)
within xs most false one = (λ bad. absurd (false≢true bad), λ all. absurd (omega (arith, all one.0, one.2 0)))

pub returns : goal.returns
returns c =
    let slots = c.args.slots.now in
    let most = c.args.most in
    within slots most c.all.result
    (cases_from_all _ _ _ (λ x. x ≤ most) (λ x. most < x) c.all.ensures.ran (YieldsList-from_slice slots cc) (λ x q k. search (rules, tests)) (λ x q k. search (rules, tests)))

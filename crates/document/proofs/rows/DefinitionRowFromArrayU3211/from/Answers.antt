-- The eleven numbers are the members in their order.
use Rattle.std.proofs.Common.{◌≡◌, ℕ, List, [], ◌∷◌, length, get_or, ap, arith}
use Rattle.std.proofs.lemmas.Grind.{common_steps}
use Rattle.document.proofs.rows.DefinitionRowFromArrayU3211.from.Goals as goal

-- the first of eleven is split off by hand: the tactic splits off ten
eleven : (xs : List ℕ) → length xs ≡ 11
    → xs ≡ get_or xs 0 0 ∷ get_or xs 1 0 ∷ get_or xs 2 0 ∷ get_or xs 3 0 ∷ get_or xs 4 0 ∷ get_or xs 5 0 ∷ get_or xs 6 0 ∷ get_or xs 7 0 ∷ get_or xs 8 0 ∷ get_or xs 9 0 ∷ get_or xs 10 0 ∷ []
eleven [] h = absurd (omega arith)
eleven (x ∷ xs) h =
    let ten : length xs ≡ 10 = omega arith in
    ap (λ t. x ∷ t) (grind (arith, common_steps))

pub returns : goal.returns
returns c = eleven c.args.numbers (omega arith)

-- The errors that are counted are those of the calls.
use Rattle.std.proofs.Common.{◌≡◌, ◌↔◌, ℕ, Bool, false, List, [], ◌∷◌, length, nat_lt, refl, ap, ◌∙◌, arith}
use Rattle.schema.specs.Meaning.{Meaning}
use Rattle.selection_rules.specs.Errors.{Error}
use Rattle.builder.proofs.Readings.{counted}
use Rattle.scripts.proofs.outcomes.lists_errors.Goals as goal

none_listed : (n : ℕ) (es : List Error) (r : Bool) → r ≡ nat_lt 0 n → n ≡ length es → (r ≡ false) ↔ (es ≡ [])
none_listed n [] r told is = (λ no. refl, λ none. told ∙ ap (nat_lt 0) is)
none_listed n (e ∷ es) r told is = (λ no. absurd (grind arith), λ none. absurd (grind arith))

pub returns-clause-told : goal.returns-clause-told
returns-clause-told g c =
    let m : Meaning = g.S.Schema.meaning c.args.schema.now in
    let ran = c.in_ok-run.ensures.runs in
    let errors = c.has_errors.ensures in
    ((_, ran.0), none_listed _ _ _ errors.listed (counted g.S.Schema.meaning m _ _ _ ran.1).errors, errors.valid m _ _ ran.1)

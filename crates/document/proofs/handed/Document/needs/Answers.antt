-- What is counted of the rows is what the one document needs.
use Rattle.std.proofs.Common.{◌≡◌, ℕ, length, count_by, sym, ap, ◌∙◌, arith}
use Rattle.std.proofs.lemmas.Result.{err_from_is_err_and}
use Rattle.refusal.proofs.Firsts.{verdict_ok, verdict_err}
use Rattle.document.specs.declared.handed.needs.Needs.{Needs}
use Rattle.document.specs.Rows.{head_of, is_fragment, named_operation}
use Rattle.document.specs.Needs.{rows_in}
use Rattle.document.proofs.Keys.{count_heads, all_rows, as_many}
use Rattle.document.proofs.handed.Document.needs.Goals as goal

needs_same : (a b c d e a' b' c' d' e' : ℕ) → a ≡ a' → b ≡ b' → c ≡ c' → d ≡ d' → e ≡ e'
    → ◌≡◌ {A = Needs} (record { operations = a; fragments = b; rows = c; errors = d; path_keys = e }) (record { operations = a'; fragments = b'; rows = c'; errors = d'; path_keys = e' })
needs_same a b c d e a' b' c' d' e' p q r s t = cc

pub returns-in_err-check-clause-verdict : goal.returns-in_err-check-clause-verdict
returns-in_err-check-clause-verdict c =
    let p = err_from_is_err_and c.from_residual.result c.from_residual.ensures.1 in
    rw (p.1, p.2) (sym (verdict_err _ _ (sym c.in_err-check.ensures.verdict)))

pub returns-clause-verdict : goal.returns-clause-verdict
returns-clause-verdict c = sym (verdict_ok _ (sym c.in_ok-check.ensures.verdict))

pub returns-clause-needs : goal.returns-clause-needs
returns-clause-needs c =
    let ds = c.args.self.now.definitions.now in
    let rows = c.args.self.now.rows.now in
    let d = c.in_ok-check.ensures.lawful.document in
    let is = c.in_ok-check.ensures.lawful.is in
    let all : length rows ≡ rows_in d = ap length is.selected ∙ all_rows rows 0 d in
    let many : length d ≡ length ds = as_many rows ds d is in (
      d,
      is,
      needs_same _ _ _ _ _ _ _ _ _ _
          (c.named_operations.ensures ∙ ap (count_by (λ r. named_operation (head_of r))) is.heads ∙ count_heads named_operation 0 d)
          (c.fragments.ensures ∙ ap (count_by (λ r. is_fragment (head_of r))) is.heads ∙ count_heads is_fragment 0 d)
          all (omega arith) (c.path_keys.ensures d is),
    )

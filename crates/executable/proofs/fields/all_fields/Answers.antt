-- The tables that are read are walked; where none are read, a list that is lent stays as it is.
use Rattle.std.proofs.Common.{◌≡◌, ℕ, List, length, Some, None, Option, sym, refl, subst}
use Rattle.std.specs.Borrow.{MutBor}
use Rattle.std.proofs.lemmas.Result.{err_from_is_err_and}
use Rattle.building_rules.specs.Definitions.{Kept}
use Rattle.building_rules.specs.Calls.{kept}
use Rattle.walking.specs.Lent.{lent_long}
use Rattle.walking.specs.Answers.{lengths}
use Rattle.executable.specs.declared.fault.ExecutableFault.{ExecutableFault}
use Rattle.executable.specs.Walking.{short, refused, listed, KeptRefused}
use Rattle.executable.proofs.Walked.{fields_reached, fields_refused}
use Rattle.executable.proofs.fields.all_fields.Goals as goal

-- something is lent, or nothing
lent_or_not : {A : Type 0} {P : Type 0} (o : Option A) → (o ≡ None → P) → ((x : A) → o ≡ Some x → P) → P
lent_or_not None none some = none refl
lent_or_not (Some x) none some = some x refl

-- what is lent, told by the list
lent_so : (ks : List Kept) (operation stack marks : ℕ) (f : ExecutableFault) (l k : Option (MutBor (List ℕ))) → l ≡ k
    → KeptRefused ks operation (lengths stack marks (lent_long k)) f → KeptRefused ks operation (lengths stack marks (lent_long l)) f
lent_so ks operation stack marks f l k is = subst (λ (x : Option (MutBor (List ℕ))). KeptRefused ks operation (lengths stack marks (lent_long x)) f) (sym is)

pub returns-in_default-clause-answer : goal.returns-in_default-clause-answer
returns-in_default-clause-answer g c = short c.in_default.ensures.stored

pub returns-in_default-clause-refused : goal.returns-in_default-clause-refused
returns-in_default-clause-refused g c = (refl, refl, lent_or_not c.args.list (λ e. rw e tt) (λ x e. rw e refl))

pub returns-in_err-all_fields-in-Some-list-clause-answer : goal.returns-in_err-all_fields-in-Some-list-clause-answer
returns-in_err-all_fields-in-Some-list-clause-answer g c =
    let p = err_from_is_err_and c.from_residual.result c.from_residual.ensures.1 in
    rw (p.1, p.2, c.in-Some-list.is) (refused _ _ c.in-Some.ensures.stored c.in_err-all_fields-in-Some-list.ensures.answer)

pub returns-in_err-all_fields-in-Some-list-clause-refused : goal.returns-in_err-all_fields-in-Some-list-clause-refused
returns-in_err-all_fields-in-Some-list-clause-refused g c =
    let p = err_from_is_err_and c.from_residual.result c.from_residual.ensures.1 in
    rw (p.1, c.in-Some-list.is) c.in_err-all_fields-in-Some-list.ensures.refused

pub returns-in_err-all_fields-in-Some-list-clause-kept : goal.returns-in_err-all_fields-in-Some-list-clause-kept
returns-in_err-all_fields-in-Some-list-clause-kept g c m calls v =
    let p = err_from_is_err_and c.from_residual.result c.from_residual.ensures.1 in
    rw (p.1, p.2)
    (lent_so (kept m calls) c.args.operation (length c.args.stack.now) (length c.args.marks.now) _ _ _ c.in-Some-list.is
    (fields_refused _ _ (c.in-Some.ensures.kept m calls v) _ _ (λ places. ⊥) _ c.in_err-all_fields-in-Some-list.ensures.answer))

pub returns-in_err-all_fields-in-None-clause-answer : goal.returns-in_err-all_fields-in-None-clause-answer
returns-in_err-all_fields-in-None-clause-answer g c =
    let p = err_from_is_err_and c.from_residual-in_err-all_fields-in-None.result c.from_residual-in_err-all_fields-in-None.ensures.1 in
    rw (p.1, p.2, c.in-None.is) (refused _ _ c.in-Some.ensures.stored c.in_err-all_fields-in-None.ensures.answer)

pub returns-in_err-all_fields-in-None-clause-kept : goal.returns-in_err-all_fields-in-None-clause-kept
returns-in_err-all_fields-in-None-clause-kept g c m calls v =
    let p = err_from_is_err_and c.from_residual-in_err-all_fields-in-None.result c.from_residual-in_err-all_fields-in-None.ensures.1 in
    rw (p.1, p.2)
    (lent_so (kept m calls) c.args.operation (length c.args.stack.now) (length c.args.marks.now) _ _ _ c.in-None.is
    (fields_refused _ _ (c.in-Some.ensures.kept m calls v) _ _ (λ places. ⊥) _ c.in_err-all_fields-in-None.ensures.answer))

pub returns-in_ok-all_fields-in-Some-list-clause-answer : goal.returns-in_ok-all_fields-in-Some-list-clause-answer
returns-in_ok-all_fields-in-Some-list-clause-answer g c =
    rw c.in-Some-list.is (listed _ _ c.in-Some.ensures.stored c.in_ok-all_fields-in-Some-list.ensures.answer)

pub returns-in_ok-all_fields-in-Some-list-clause-kept : goal.returns-in_ok-all_fields-in-Some-list-clause-kept
returns-in_ok-all_fields-in-Some-list-clause-kept g c m calls v =
    rw c.in-Some-list.is (fields_reached _ _ (c.in-Some.ensures.kept m calls v) _ _ _ _ c.in_ok-all_fields-in-Some-list.ensures.answer)

pub returns-in_ok-all_fields-in-None-clause-answer : goal.returns-in_ok-all_fields-in-None-clause-answer
returns-in_ok-all_fields-in-None-clause-answer g c =
    rw c.in-None.is (listed _ _ c.in-Some.ensures.stored c.in_ok-all_fields-in-None.ensures.answer)

pub returns-in_ok-all_fields-in-None-clause-kept : goal.returns-in_ok-all_fields-in-None-clause-kept
returns-in_ok-all_fields-in-None-clause-kept g c m calls v =
    rw c.in-None.is (fields_reached _ _ (c.in-Some.ensures.kept m calls v) _ _ _ _ c.in_ok-all_fields-in-None.ensures.answer)

-- What is read of the tables is walked.
use Rattle.std.proofs.lemmas.Result.{err_from_is_err_and}
use Rattle.executable.specs.Walking.{short, refused, told}
use Rattle.executable.proofs.introspection.is_introspection.Goals as goal

pub returns-in_default-clause-answer : goal.returns-in_default-clause-answer
returns-in_default-clause-answer g c = short c.in_default.ensures.stored

pub returns-in_err-is_introspection-clause-answer : goal.returns-in_err-is_introspection-clause-answer
returns-in_err-is_introspection-clause-answer g c =
    let p = err_from_is_err_and c.from_residual.result c.from_residual.ensures.1 in
    rw (p.1, p.2) (refused _ _ c.in-Some.ensures.stored c.in_err-is_introspection.ensures.answer)

pub returns-clause-answer : goal.returns-clause-answer
returns-clause-answer g c = told _ _ c.in-Some.ensures.stored c.in_ok-is_introspection.ensures.answer

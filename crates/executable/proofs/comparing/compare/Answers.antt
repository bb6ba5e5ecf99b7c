-- What is read of both documents is compared.
use Rattle.std.proofs.lemmas.Result.{err_from_is_err_and}
use Rattle.std.proofs.lemmas.Bool.{or_left, or_right}
use Rattle.executable.specs.Comparing.{short, read}
use Rattle.executable.proofs.Compared.{says_same}
use Rattle.executable.proofs.comparing.compare.Goals as goal

pub returns-in_default-clause-answer : goal.returns-in_default-clause-answer
returns-in_default-clause-answer g c = short (or_right _ _ c.in_default.ensures'.stored)

pub returns-in_default-2-clause-answer : goal.returns-in_default-2-clause-answer
returns-in_default-2-clause-answer g c = short (or_left _ _ c.in_default.ensures.stored)

pub returns-in_err-compare-clause-answer : goal.returns-in_err-compare-clause-answer
returns-in_err-compare-clause-answer g c =
    let p = err_from_is_err_and c.from_residual.result c.from_residual.ensures.1 in
    rw (p.1, p.2) (read _ _ _ c.in-Some-Some.ensures.stored c.in-Some-Some.ensures'.stored c.in_err-compare.ensures)

pub returns-in_err-compare-clause-kept : goal.returns-in_err-compare-clause-kept
returns-in_err-compare-clause-kept g c m calls others v w =
    absurd (says_same m calls others v.sound w.sound _ _ (c.in-Some-Some.ensures.kept m calls v) (c.in-Some-Some.ensures'.kept m others w) _ c.in_err-compare.ensures)

pub returns-clause-answer : goal.returns-clause-answer
returns-clause-answer g c = read _ _ _ c.in-Some-Some.ensures.stored c.in-Some-Some.ensures'.stored c.in_ok-compare.ensures

pub returns-clause-kept : goal.returns-clause-kept
returns-clause-kept g c m calls others v w =
    says_same m calls others v.sound w.sound _ _ (c.in-Some-Some.ensures.kept m calls v) (c.in-Some-Some.ensures'.kept m others w) _ c.in_ok-compare.ensures

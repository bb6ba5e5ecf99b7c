-- No error is listed exactly when the accepted definitions keep the rules.
use Rattle.std.proofs.Common.{subst, arith}
use Rattle.std.proofs.lemmas.Bool.{ltb-false, le-ltb}
use Rattle.schema.specs.Law.{Lawful}
use Rattle.builder.proofs.Standing.{judged_valid}
use Rattle.builder.proofs.builder.ExecutableDocumentBuilder.has_errors.Goals as goal

pub returns-clause-valid : goal.returns-clause-valid
returns-clause-valid g c m calls tables w closed =
    let n = c.args.self.now.progress.filled.errors in
    let lawful = subst Lawful w.schema (g.met.S.Schema.lawful c.args.self.now.schema.now) in
    let both = judged_valid g.S.Schema.meaning m calls c.args.self.now tables w lawful closed in
    (λ is. let low = ltb-false 0 n is in both.0 (omega arith), λ valid. le-ltb 0 n (omega (arith, both.1 valid)))

-- The document came out of the calls of its script, and its walk lists what the kept operation reaches.
use Rattle.std.proofs.Common.{◌≡◌, Bool, true, false, length, Some, sym, ◌∙◌, arith}
use Rattle.schema.specs.Meaning.{Meaning}
use Rattle.building_rules.specs.Calls.{kept}
use Rattle.walking.specs.Answers.{lengths}
use Rattle.executable.specs.declared.fault.ExecutableFault.TheVariants.{NoOperation}
use Rattle.scripts.specs.Script.{calls_of}
use Rattle.scripts.proofs.Lent.{long_enough, for_what_is_lent}
use Rattle.scripts.proofs.outcomes.reaches_fields.Goals as goal

clash : (b : Bool) → b ≡ true → b ≡ false → ⊥
clash b is not = grind (arith, is, not)

pub returns-in-Err-2-clause-told : goal.returns-in-Err-2-clause-told
returns-in-Err-2-clause-told g c =
    let m : Meaning = g.S.Schema.meaning c.args.schema.now in
    let ran = c.in_ok-run.ensures.runs in
    let told = c.in-Err.ensures.kept m _ (c.build-document.ensures.calls m _ _ ran.1) in
    let other : c.in-Err.fault ≡ NoOperation → ⊥ = λ is. grind (arith, is, c.eq.ensures, c.if-eq.false) in
    let short = for_what_is_lent (kept m (calls_of m c.args.tables.now c.args.script.now)) c.args.operation (lengths (length c.args.stack.now) (length c.args.marks.now) (Some (length c.args.list.now))) c.in-Err.fault told other in
    let long = long_enough g.S.Schema.meaning m _ _ _ ran.1 c.args.tables.now c.run.ensures.lengths _ _ _ (sym c.is_short.ensures ∙ c.if-is_short.false) in
    absurd (clash _ short long)

-- A builder that has stored nothing came out of no call.
use Rattle.std.proofs.Common.{refl, arith}
use Rattle.std.proofs.lemmas.List.{length-take-le}
use Rattle.builder.proofs.Standing.{stands_fresh}
use Rattle.builder.proofs.builder.ExecutableDocumentBuilder.new.Goals as goal

pub returns-clause-calls : goal.returns-clause-calls
returns-clause-calls g c =
    let a = c.empty_index in
    let b = c.empty_index-2 in
    stands_fresh g.S.Schema.meaning _ _ _ refl
    (record { operations = refl; fragments = refl; filled = refl; anonymous = refl; multiple = refl })
    (record { fits = omega arith; slots = length-take-le 512 a.new.slots (omega (arith, a.auto.slots, c.if-tables-lt-INDEX_SLOTS.false)); sound = a.ensures.sound })
    (record { fits = omega arith; slots = length-take-le 512 b.new.slots (omega (arith, b.auto.slots, c.if-tables-lt-INDEX_SLOTS-2.false)); sound = b.ensures.sound })

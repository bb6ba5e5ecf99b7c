-- What is ruled of operations and fragments is what the rules say.
use Rattle.std.proofs.Common.{length, sym, subst}
use Rattle.document.specs.Rows.{head_of}
use Rattle.builder.specs.Holding.{location_of}
use Rattle.builder.specs.Naming.{state_now}
use Rattle.builder.specs.Ruling.{Ruled}
use Rattle.builder.proofs.Rulings.{operation_ruled}
use Rattle.builder.proofs.named.Stored.rule.Goals as goal

pub returns-in-1 : goal.returns-in-1
returns-in-1 g c =
    let m = g.S.Schema.meaning c.args.schema.now in
    let s = c.args.self.now in
    let h = head_of c.args.row.now in
    subst (Ruled m (state_now s) h c.args.strict) (sym c.rule_operation.ensures)
    (operation_ruled m s.multiple_anonymous h s.operations.definitions.now (state_now s).fragments c.args.strict (location_of s.anonymous) (length s.operations.definitions.now) c.in-1.is)

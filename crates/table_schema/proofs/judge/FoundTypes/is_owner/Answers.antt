-- The type that is found stands among the rows.
use Rattle.std.proofs.Common.{◌<◌, length, sym, rules}
use Rattle.table_schema.specs.Meaning.{named, no_type}
use Rattle.table_schema.proofs.Founds.{first_at}
use Rattle.table_schema.proofs.judge.FoundTypes.is_owner.Goals as goal

pub bounds-self-i : goal.bounds-self-i
bounds-self-i c = (first_at (named c.args.owner) c.args.self.now.rows.now c.in-Some.i no_type (sym c.in-Some.ensures)).0

pub offset_bounds-self-i : goal.offset_bounds-self-i
offset_bounds-self-i c =
    let low : c.in-Some.i < length c.args.self.now.rows.now = (first_at (named c.args.owner) c.args.self.now.rows.now c.in-Some.i no_type (sym c.in-Some.ensures)).0 in
    search rules

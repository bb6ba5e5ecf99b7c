-- One error behind the others, or none.
use Rattle.std.proofs.Common.{◌+◌, [], length, sym, ap, ◌∙◌}
use Rattle.builder.specs.Filling.{put}
use Rattle.builder.specs.Ruling.{maybe}
use Rattle.builder.proofs.Puts.{set-put}
use Rattle.builder.proofs.store.list_one.Goals as goal

pub returns-in-Some : goal.returns-in-Some
returns-in-Some c =
    let was = c.in-Some.is in
    record {
      listed = set-put c.args.errors.now c.args.at c.in-Some.error c.requires ∙ ap (λ x. put c.args.errors.now c.args.at (maybe x [])) (sym was);
      counted = ap (λ x. c.args.at + length (maybe x [])) (sym was);
    }

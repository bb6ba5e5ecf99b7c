-- The first error, and behind it the second.
use Rattle.std.proofs.Common.{[], length, sym, ap, ◌∙◌, arith, length-append}
use Rattle.builder.specs.Filling.{put}
use Rattle.builder.specs.Ruling.{maybe}
use Rattle.builder.proofs.Puts.{put-put}
use Rattle.builder.proofs.Outputs.{told_parts, maybe_few}
use Rattle.builder.proofs.store.list_ruling.Goals as goal

pub returns : goal.returns
returns c =
    let r = c.args.ruling.now in
    let one = c.list_one-next.ensures in
    let two = c.list_one.ensures in
    let parts = told_parts r.first r.second in
    let few = maybe_few r.first in
    let front = maybe r.first [] in
    let back = maybe r.second [] in
    record {
      listed = two.listed ∙ ap (λ l. put l c.list_one-next.result back) one.listed
          ∙ put-put c.args.errors.now c.args.at front back c.list_one-next.result one.counted (omega (arith, one.counted, c.requires)) ∙ ap (put c.args.errors.now c.args.at) (sym parts);
      counted = omega (arith, two.counted, one.counted, ap length parts, length-append front back);
    }

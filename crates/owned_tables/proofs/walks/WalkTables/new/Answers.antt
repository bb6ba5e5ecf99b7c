-- What is written everywhere in the stack and in the list.
use Rattle.std.proofs.Common.{◌≡◌, replicate, ap, ◌∙◌}
use Rattle.owned_tables.specs.Contents.{no_step}
use Rattle.owned_tables.proofs.walks.WalkTables.new.Goals as goal

pub returns-clause-stack : goal.returns-clause-stack
returns-clause-stack c =
    let default : c.default.result ≡ no_step = λ i. record { next = c.default.ensures.0 i; end = c.default.ensures.1 i } in
    c.in_ok-vec.ensures.items_if_clones_equal (λ y is. is) ∙ ap (replicate 8481) default

pub returns-clause-list : goal.returns-clause-list
returns-clause-list c = c.in_ok-vec-3.ensures.items_if_clones_equal (λ y is. is)

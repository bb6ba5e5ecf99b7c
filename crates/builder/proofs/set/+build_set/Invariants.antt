-- What is left of the set gives what was to be built; the rows to come grow fewer.
use Rattle.std.proofs.Common.{◌≡◌, ◌-◌}
use Rattle.builder.specs.Filling.{path_of, output}
use Rattle.builder.proofs.Left.{Left}
use Rattle.builder.proofs.set.+build_set.Given as goal

abbrev pub decreases-build_set : goal.decreases-build_set
decreases-build_set g l = l.set.end - l.set.next

abbrev pub invariant-loop-step : goal.invariant-loop-step
invariant-loop-step g l =
    Left (g.S.Schema.meaning l.schema) l.document.rows.now l.initial.rest l.around l.initial.path.depth (path_of l.initial.path)
    (output l.initial.rows l.initial.errors l.initial.path_keys l.initial.done) l.rest (output l.rows l.errors l.path_keys l.done)
    × (path_of l.path ≡ path_of l.initial.path) × (l.path.depth ≡ l.initial.path.depth)

abbrev pub decreases-loop-step : goal.decreases-loop-step
decreases-loop-step g l = l.rest.end - l.rest.next

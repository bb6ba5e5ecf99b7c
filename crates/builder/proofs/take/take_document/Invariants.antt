-- The definitions that are left lead to what all lead to.
use Rattle.builder.specs.Holding.{held}
use Rattle.builder.proofs.Going.{Going}
use Rattle.builder.proofs.take.take_document.Given as goal

abbrev pub invariant-loop-place : goal.invariant-loop-place
invariant-loop-place g l =
    Going (g.S.Schema.meaning l.schema) l.document.definitions.now l.document.rows.now l.strict
    (held l.initial.next l.initial.operations l.initial.operation_slots l.initial.fragments l.initial.fragment_slots l.initial.rows l.initial.errors l.initial.path_keys)
    l.place
    (held l.next l.operations l.operation_slots l.fragments l.fragment_slots l.rows l.errors l.path_keys)

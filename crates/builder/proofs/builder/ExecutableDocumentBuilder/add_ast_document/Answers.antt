-- A document that is not refused is taken in, and the calls are one more.
use Rattle.std.proofs.Common.{List, drop, sym, refl, ap, ◌∙◌}
use Rattle.std.proofs.lemmas.List.{drop_at}
use Rattle.std.proofs.lemmas.Result.{err_from_is_err_and}
use Rattle.document.specs.Document.{Definition}
use Rattle.schema.specs.Meaning.{Meaning}
use Rattle.building_rules.specs.Definitions.{accepted_from}
use Rattle.building_rules.specs.Calls.{document_in}
use Rattle.building_rules.proofs.Histories.{documents_are_read}
use Rattle.builder.specs.Holding.{taken_in}
use Rattle.builder.specs.Adding.{held_in}
use Rattle.builder.proofs.Cuts.{first_slots, indexed_first}
use Rattle.builder.proofs.Never.{never}
use Rattle.builder.proofs.Standing.{never_stale, stands_longer, stands_refused}
use Rattle.builder.proofs.builder.ExecutableDocumentBuilder.add_ast_document.Goals as goal

pub slice_bounds-take_document-end-3 : goal.slice_bounds-take_document-end-3
slice_bounds-take_document-end-3 g c = sym (c.in_ok-judge.ensures.ready c.args.strict).1.operations.slots

pub slice_bounds-take_document-end-6 : goal.slice_bounds-take_document-end-6
slice_bounds-take_document-end-6 g c = sym (c.in_ok-judge.ensures.ready c.args.strict).1.fragments.slots

pub take_document-self-requires : goal.take_document-self-requires
take_document-self-requires g c = record { ready = c.in_ok-judge.ensures.ready c.args.strict }

pub returns-clause-held : goal.returns-clause-held
returns-clause-held g c =
    let t = c.take_document-self in
    let ready = c.in_ok-judge.ensures.ready c.args.strict in
    let h = held_in c.args.self.now.progress c.args.tables.now in
    first_slots t.result t.new.operations t.new.operation_slots (drop 512 c.args.tables.now.operation_slots.now) t.new.fragments t.new.fragment_slots (drop 512 c.args.tables.now.fragment_slots.now) t.new.rows t.new.errors t.new.path_keys t.ensures.operations.slots t.ensures.fragments.slots
    ∙ t.ensures.taken ready.0 ready.1.is
    ∙ ap (λ (d : List Definition). taken_in (g.S.Schema.meaning c.args.self.now.schema.now) h (accepted_from c.args.strict d)) (sym (documents_are_read _ _ ready.0 ready.1.is))

pub returns-clause-further : goal.returns-clause-further
returns-clause-further g c =
    let t = c.take_document-self in
    record {
      operations = drop_at t.new.operation_slots (drop 512 c.args.tables.now.operation_slots.now) 512 t.ensures.operations.slots;
      fragments = drop_at t.new.fragment_slots (drop 512 c.args.tables.now.fragment_slots.now) 512 t.ensures.fragments.slots;
    }

pub returns-in_err-judge-clause-calls : goal.returns-in_err-judge-clause-calls
returns-in_err-judge-clause-calls g c m calls w =
    let p = err_from_is_err_and c.from_residual.result c.from_residual.ensures.1 in
    rw p.1 (stands_refused g.S.Schema.meaning m calls c.args.self.now c.args.tables.now w _ _ _ _ _ refl refl)

pub returns-in_err-judge-clause-never : goal.returns-in_err-judge-clause-never
returns-in_err-judge-clause-never g c m calls w =
    let p = err_from_is_err_and c.from_residual.result c.from_residual.ensures.1 in
    let own = never_stale g.S.Schema.meaning m calls c.args.self.now c.args.tables.now w in
    rw (p.1, p.2) (never _ _ _ _ own.0 own.1 own.2 _ c.in_err-judge.ensures.answer)

pub returns-clause-calls : goal.returns-clause-calls
returns-clause-calls g c m calls w =
    let t = c.take_document-self in
    let ready = c.in_ok-judge.ensures.ready c.args.strict in
    let h = held_in c.args.self.now.progress c.args.tables.now in
    let ds = c.args.document.now.definitions.now in
    let rows = c.args.document.now.rows.now in
    stands_longer g.S.Schema.meaning m calls c.args.self.now c.args.tables.now w ds rows c.args.strict _ _ refl ready.0 ready.1.is ready.1.space
    (returns-clause-held g c ∙ ap (λ (x : Meaning). taken_in x h (accepted_from c.args.strict (document_in ds rows))) w.schema)
    (indexed_first t.new.operations t.new.operation_slots (drop 512 c.args.tables.now.operation_slots.now) t.result.operations t.ensures.operations)
    (indexed_first t.new.fragments t.new.fragment_slots (drop 512 c.args.tables.now.fragment_slots.now) t.result.fragments t.ensures.fragments)

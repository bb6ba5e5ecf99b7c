-- Each turn answers one call.
use Rattle.std.proofs.Common.{◌≡◌, Bool, ◌++◌, [], ◌∷◌, ℕ, List, take, drop, get_or, replicate, is_some, Ok, Err, Option, Result, sym, refl, ap, ◌∙◌, subst}
use Rattle.std.specs.Result.{is_err, result_err}
use Rattle.std.proofs.lemmas.List.{drop_at, take_at, length-replicate}
use Rattle.schema.specs.Meaning.{Meaning}
use Rattle.stored_tables.specs.declared.tables.Tables.{Tables}
use Rattle.builder.specs.declared.progress.Progress.{Progress}
use Rattle.builder.specs.declared.fault.BuilderFault.{BuilderFault}
use Rattle.builder.specs.Beginning.{no_progress, Emptied}
use Rattle.builder.specs.Holding.{Held}
use Rattle.builder.specs.Lent.{SameFurtherSlots}
use Rattle.builder.specs.Adding.{held_in, after_adding}
use Rattle.builder.specs.Certificate.{Stands, called}
use Rattle.scripts.specs.declared.script.Adding.{Adding}
use Rattle.scripts.specs.Script.{Lengths, lengths_of, call_of, answered_from, calls_from}
use Rattle.scripts.specs.Running.{begun, held_after}
use Rattle.scripts.proofs.Answered.{answered}
use Rattle.scripts.proofs.Turns.{no_adding, same_lengths, both_same, both_long, both_further, one_call_more, begin, go_on, all_answered, all_called, all_held}
use Rattle.scripts.proofs.running.run.Goals as goal

-- a call is refused that answers with a fault
refused_so : (r : Result Unit BuilderFault) → is_err r ≡ is_some (result_err r)
refused_so (Ok x) = refl
refused_so (Err f) = refl

-- of an emptied index the first 512 slots are empty, and the others as they were
emptied_front : (slots after : List ℕ) → after ≡ replicate 512 0 ++ drop 512 slots → (take 512 after ≡ replicate 512 0) × (drop 512 after ≡ drop 512 slots)
emptied_front slots after is = (
  ap (take 512) is ∙ take_at (replicate 512 0) (drop 512 slots) 512 (length-replicate {A = ℕ} 512 0),
  ap (drop 512) is ∙ drop_at (replicate 512 0) (drop 512 slots) 512 (length-replicate {A = ℕ} 512 0),
)

-- a fresh builder on emptied indexes
begins : (before after : Tables) (p : Progress) → p ≡ no_progress → Emptied before after
    → (held_in p after ≡ begun after) × (begun after ≡ begun before) × SameFurtherSlots before after
begins before after p is e =
    let a = emptied_front before.operation_slots.now after.operation_slots.now e.operation_slots in
    let b = emptied_front before.fragment_slots.now after.fragment_slots.now e.fragment_slots in
    (rw (is, a.0, b.0) refl, rw (e.operations, e.fragments, e.rows, e.errors, e.path_keys) refl, record { operations = a.1; fragments = b.1 })

pub loop-i-init : goal.loop-i-init
loop-i-init g c =
    let made = c.in_ok-builder.ensures in
    let empty = begins c.args.tables.now c.new.new.tables c.in_ok-builder.builder.progress made.begins.1 made.begins.2 in (
      begin g.S.Schema.meaning (g.S.Schema.meaning c.args.schema.now) c.new.new.tables (begun c.new.new.tables) c.args.script.now c.in_ok-builder.builder c.new.new.tables made.calls
          empty.0
          (record { operations = refl; fragments = refl })
          (record { operations = refl; operation_slots = refl; fragments = refl; fragment_slots = refl; rows = refl; errors = refl; path_keys = refl })
          (record { operations = refl; operation_slots = refl; fragments = refl; fragment_slots = refl; rows = refl; errors = refl; path_keys = refl }),
      refl,
    )

pub loop-i-preserved : goal.loop-i-preserved
loop-i-preserved g c =
    let w = c.loop-i.invariant.0 in
    let m : Meaning = g.S.Schema.meaning c.args.schema.now in
    let added = c.add_ast_document.ensures in
    let call : Adding = get_or c.loop-i.script c.loop-i.i no_adding in
    let ds = call.document.definitions.now in
    let rows = call.document.rows.now in
    let b = c.loop-i.builder in
    let t = c.loop-i.tables in
    let told = c.err.ensures.value in (
      go_on g.S.Schema.meaning m _ _ _ c.loop-i.i b t c.loop-i.script w no_adding call c.err.result _ _ c.loop-i-test.true refl
          (told ∙ answered g.S.Schema.meaning m w.calls b t w.stands call _ added.answer)
          (subst (λ (refused : Bool). Stands g.S.Schema.meaning m (w.calls ++ called ds rows call.strict refused ∷ []) c.add_ast_document.new.self c.add_ast_document.new.tables)
          (refused_so c.add_ast_document.result ∙ ap (λ (x : Option BuilderFault). is_some x) (sym told)) (added.calls m w.calls w.stands))
          (added.held
          ∙ ap (λ (x : Meaning). after_adding x (held_in b.progress t) ds rows call.strict c.add_ast_document.result) w.stands.schema
          ∙ ap (λ (h : Held). after_adding m h ds rows call.strict c.add_ast_document.result) w.holds
          ∙ sym (one_call_more m w.calls (begun c.new.new.tables) call c.add_ast_document.result)
          ∙ ap (λ (x : Option BuilderFault). held_after m (begun c.new.new.tables) (w.calls ++ call_of call x ∷ [])) (sym told))
          added.further added.same added.lengths,
      added.schema ∙ c.loop-i.invariant.1,
    )

pub returns-clause-runs : goal.returns-clause-runs
returns-clause-runs g c =
    let m : Meaning = g.S.Schema.meaning c.args.schema.now in
    let made = c.in_ok-builder.ensures in
    let w = c.loop-i.invariant.0 in
    let old = c.args.script.now in
    let long = same_lengths c.args.tables.now c.new.new.tables made.lengths in
    let empty = begins c.args.tables.now c.new.new.tables c.in_ok-builder.builder.progress made.begins.1 made.begins.2 in
    let over = c.loop-i-test.false in (
      record {
        long = made.begins.0;
        answers = all_answered g.S.Schema.meaning m _ _ _ c.loop-i.i c.loop-i.builder c.loop-i.tables c.loop-i.script w over ∙ ap (λ (l : Lengths). answered_from l m [] old) long;
        holds =
            all_held g.S.Schema.meaning m _ _ _ c.loop-i.i c.loop-i.builder c.loop-i.tables c.loop-i.script w over
            ∙ ap (λ (h : Held). held_after m h (calls_from (lengths_of c.new.new.tables) m [] old)) empty.1
            ∙ ap (λ (l : Lengths). held_after m (begun c.args.tables.now) (calls_from l m [] old)) long;
        further = both_further c.args.tables.now c.new.new.tables c.loop-i.tables empty.2 w.further_slots;
      },
      subst (λ (l : Lengths). Stands g.S.Schema.meaning m (calls_from l m [] old) c.loop-i.builder c.loop-i.tables) long
          (all_called g.S.Schema.meaning m _ _ _ c.loop-i.i c.loop-i.builder c.loop-i.tables c.loop-i.script w over),
    )

pub returns-clause-schema : goal.returns-clause-schema
returns-clause-schema g c = c.loop-i.invariant.1 ∙ c.in_ok-builder.ensures.schema

pub returns-clause-same : goal.returns-clause-same
returns-clause-same g c = both_same _ _ _ c.in_ok-builder.ensures.same c.loop-i.invariant.0.same

pub returns-clause-lengths : goal.returns-clause-lengths
returns-clause-lengths g c = both_long _ _ _ c.in_ok-builder.ensures.lengths c.loop-i.invariant.0.lengths

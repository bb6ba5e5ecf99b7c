-- Each turn keeps, drops or lists one selection.
use Rattle.std.proofs.Common.{◌≡◌, ℕ, ◌≤◌, Bool, false, not, [], ◌∷◌, length, get_or, set, sym, refl, ap, ◌∙◌, subst, arith, rules}
use Rattle.std.proofs.lemmas.Bool.{false≢true}
use Rattle.layout.specs.Forest.{Forest, none, row}
use Rattle.document.specs.Rows.{Selection, selection_of}
use Rattle.document.specs.Needs.{way}
use Rattle.schema.specs.Meaning.{Meaning}
use Rattle.selection_rules.specs.declared.settling.Settled.{Settled}
use Rattle.selection_rules.specs.Sets.{settled_in}
use Rattle.selection_rules.specs.declared.stored.StoredRow.{StoredRow}
use Rattle.selection_rules.specs.Stored.{stored_in, stored_row}
use Rattle.selection_rules.specs.Errors.{Path}
use Rattle.selection_rules.specs.Sets.{path_to, some_row, error_of, build, errors as errors-of}
use Rattle.stored_tables.specs.Verdict.{no_stored_row}
use Rattle.builder.specs.declared.filled.Filled.{Filled}
use Rattle.builder.specs.declared.path.OpenPath.{OpenPath}
use Rattle.builder.specs.Filling.{path_of, Output, output, with_set}
use Rattle.builder.proofs.Bounds.{some_beneath}
use Rattle.builder.proofs.Paths.{as_deep, returned}
use Rattle.builder.proofs.Outputs.{same_output, nothing_more, opened_with, still_open, ended}
use Rattle.builder.proofs.Left.{Left, begin, finish, turn, dropped, faulty, beneath, kept, few_beneath}
use Rattle.builder.proofs.set.+build_set.Goals as goal
use Rattle.builder.proofs.set.+build_set.Goals.{in-Kept, in-Dropped, in-Faulty, then-not-is_leaf, else-not-is_leaf}

-- what was settled, said of the forest beneath
settled_so : (m : Meaning) (around : ℕ) (s : Selection) (v : Settled) (empty test some : Bool) → empty ≡ test → not test ≡ some → v ≡ settled_in m around s (not empty) → settled_in m around s some ≡ v
settled_so m around s v empty test some e f is = ap (settled_in m around s) (sym (ap not e ∙ f)) ∙ sym is

-- nothing stands in a forest without a row
no_row : (f : Forest Selection) → some_row f ≡ false → f ≡ none
no_row none is = refl
no_row (row s below after) is = absurd (false≢true (sym is))

pub loop-step-init : goal.loop-step-init
loop-step-init g t c = (begin _ _ _ _ _ _ _ c.requires.room.0 c.requires.room.1, refl, refl)

pub build_set-done-requires : goal.build_set-done-requires
build_set-done-requires g t c κs within =
    let w = c.loop-step.invariant.0 in
    let o = output c.loop-step.rows c.loop-step.errors c.loop-step.path_keys c.loop-step.done in
    let tr = turn _ _ _ _ _ _ _ c.loop-step.rest o w c.in-Some.step c.in-Some.ensures.step in
    let deep = c.enter.ensures.depth ∙ ap (λ (n : ℕ). way n (selection_of c.in-Some.step.row)) c.loop-step.invariant.2 in
    let room = beneath _ _ _ _ _ _ _ c.loop-step.rest o w c.in-Some.step tr c.open_in.result c.enter.new.self.depth deep in
    (omega (arith, tr.starts, tr.meets, tr.high, w.same_end, w.past, c.decreases), (within, (tr.below, room)))

pub overflow_cast-rows : goal.overflow_cast-rows
overflow_cast-rows g t c =
    let w = c.loop-step.invariant.0 in
    let o = output c.loop-step.rows c.loop-step.errors c.loop-step.path_keys c.loop-step.done in
    let tr = turn _ _ _ _ _ _ _ c.loop-step.rest o w c.in-Some.step c.in-Some.ensures.step in
    let low : c.if-not-is_leaf.done.rows ≤ 16384 =
    elim c.if-not-is_leaf.branch [
      | then-not-is_leaf k ↦
          let few = few_beneath _ _ _ _ _ _ _ c.loop-step.rest o w c.in-Some.step tr c.in-Kept.inner c.open_in.result (path_of k.enter.new.self) _ (k.build_set-done.ensures.built tr.below tr.beneath) in
          omega (arith, ap (λ (x : Filled). x.rows) k.done-is)
      | else-not-is_leaf k ↦ omega (arith, ap (λ (x : Filled). x.rows) k.done-is, tr.many, w.room.rows_few)
    ]
    in
    search rules

pub loop-step-preserved : goal.loop-step-preserved
loop-step-preserved g t c =
    let whole : 32 ≡ length c.args.path.now.keys = search rules in
    let w = c.loop-step.invariant.0 in
    let o = output c.loop-step.rows c.loop-step.errors c.loop-step.path_keys c.loop-step.done in
    let step = c.in-Some.step in
    let s : Selection = selection_of step.row in
    let m : Meaning = g.S.Schema.meaning c.args.schema.now in
    let tr = turn _ _ _ _ _ _ _ c.loop-step.rest o w step c.in-Some.ensures.step in
    let empty = some_beneath _ step.beneath tr.below tr.beneath in
    let even : length (path_of c.args.path.now).keys ≡ c.args.path.now.depth = as_deep c.args.path.now (omega (arith, tr.shallow)) in
    let there = even ∙ sym c.depth-depth.ensures in
    let still = c.loop-step.invariant.1 in
    let entered : (x : OpenPath) → path_of x ≡ path_to (path_of c.loop-step.path) s → path_of x ≡ path_to (path_of c.args.path.now) s =
    λ x is. is ∙ ap (λ (y : Path). path_to y s) still
    in
    elim c.match-settle_in.branch [
      | in-Kept k ↦
          let out = settled_so m c.args.around s _ c.is_empty-is_leaf.result _ (some_row tr.below) c.is_empty-is_leaf.ensures empty k.in-Kept.ensures in
          let joined = k.if-not-is_leaf in
          let b = output joined.rows joined.errors joined.path_keys joined.done in
          let inner = k.in-Kept.inner in
          let r : StoredRow = stored_row (stored_in s k.in-Kept.place inner) 0 in
          let p : Path = path_to (path_of c.args.path.now) s in
          let is : b ≡ with_set (opened_with o r) (build m inner tr.below) (errors-of m p inner tr.below) =
          elim joined.branch [
            | then-not-is_leaf w ↦
                same_output w.rows-is w.errors-is w.path_keys-is (ap (λ (x : Filled). x.rows) w.done-is) (ap (λ (x : Filled). x.errors) w.done-is) (ap (λ (x : Filled). x.path_keys) w.done-is)
                ∙ w.build_set-done.ensures.built tr.below tr.beneath
                ∙ ap (λ (x : StoredRow). with_set (opened_with o x) (build m inner tr.below) (errors-of m (path_of w.enter.new.self) inner tr.below)) k.open_in.ensures
                ∙ ap (λ (x : Path). with_set (opened_with o r) (build m inner tr.below) (errors-of m x inner tr.below)) (entered w.enter.new.self w.enter.ensures.path)
            | else-not-is_leaf w ↦
                let leaf : tr.below ≡ none = no_row tr.below (sym empty ∙ ap not (sym w.if-not-is_leaf.ensures)) in
                same_output w.rows-is w.errors-is w.path_keys-is (ap (λ (x : Filled). x.rows) w.done-is) (ap (λ (x : Filled). x.errors) w.done-is) (ap (λ (x : Filled). x.path_keys) w.done-is)
                ∙ ap (λ (x : StoredRow). opened_with o x) k.open_in.ensures
                ∙ sym (nothing_more (opened_with o r))
                ∙ ap (λ (f : Forest Selection). with_set (opened_with o r) (build m inner f) (errors-of m p inner f)) (sym leaf)
          ]
          in
          let unended = ap (λ (x : Output). get_or x.rows o.filled.rows no_stored_row) is ∙ still_open o r no_stored_row (build m inner tr.below) (errors-of m p inner tr.below) (omega (arith, tr.many, w.room.rows_fit)) in
          let closed = ap (λ (x : StoredRow). set joined.rows o.filled.rows (ended x joined.done.rows)) unended in
          let back-to : (path_of joined.path ≡ path_of c.args.path.now) × (joined.path.depth ≡ c.args.path.now.depth) =
          elim joined.branch [
            | then-not-is_leaf w ↦ (
              ap path_of w.path-is ∙ returned (path_of c.args.path.now) s c.depth-depth.result there (path_of w.build_set-done.new.path) (path_of w.leave.new.self) (w.build_set-done.ensures.path ∙ entered w.enter.new.self w.enter.ensures.path) w.leave.ensures.path,
              ap (λ (x : OpenPath). x.depth) w.path-is ∙ w.leave.ensures.depth ∙ c.depth-depth.ensures,
            )
            | else-not-is_leaf w ↦ (ap path_of w.path-is ∙ still, ap (λ (x : OpenPath). x.depth) w.path-is ∙ c.loop-step.invariant.2)
          ]
          in (
            subst (Left m _ _ _ _ _ _ step.after) (sym (same_output (k.rows-is ∙ closed) k.errors-is k.path_keys-is (ap (λ x. x.rows) k.done-is) (ap (λ x. x.errors) k.done-is) (ap (λ x. x.path_keys) k.done-is)))
                (kept m _ _ _ _ _ _ even c.loop-step.rest o w step tr k.in-Kept.place inner out b is),
            ap path_of k.path-is ∙ back-to.0,
            ap (λ (x : OpenPath). x.depth) k.path-is ∙ back-to.1,
          )
      | in-Dropped k ↦
          let out = settled_so m c.args.around s _ c.is_empty-is_leaf.result _ (some_row tr.below) c.is_empty-is_leaf.ensures empty k.in-Dropped.ensures in (
            subst (Left m _ _ _ _ _ _ step.after) (sym (same_output k.rows-is k.errors-is k.path_keys-is (ap (λ x. x.rows) k.done-is) (ap (λ x. x.errors) k.done-is) (ap (λ x. x.path_keys) k.done-is)))
                (dropped m _ _ _ _ _ _ c.loop-step.rest o w step tr out),
            ap path_of k.path-is ∙ still,
            ap (λ (x : OpenPath). x.depth) k.path-is ∙ c.loop-step.invariant.2,
          )
      | in-Faulty k ↦
          let fault = k.in-Faulty.fault in
          let out = settled_so m c.args.around s _ c.is_empty-is_leaf.result _ (some_row tr.below) c.is_empty-is_leaf.ensures empty k.in-Faulty.ensures in
          let listed = k.list_fault-done.ensures in
          let is = listed.listed c.loop-step.rows ∙ ap (λ (x : Path). with_set o none (error_of fault (path_to x s) c.args.around s ∷ [])) still in (
            subst (Left m _ _ _ _ _ _ step.after) (sym (same_output k.rows-is k.errors-is k.path_keys-is (ap (λ x. x.rows) k.done-is) (ap (λ x. x.errors) k.done-is) (ap (λ x. x.path_keys) k.done-is)))
                (faulty m _ _ _ _ _ _ even c.loop-step.rest o w step tr fault out _ is),
            ap path_of k.path-is ∙ listed.path ∙ still,
            ap (λ (x : OpenPath). x.depth) k.path-is ∙ listed.depth ∙ c.loop-step.invariant.2,
          )
    ]

pub returns-clause-built : goal.returns-clause-built
returns-clause-built g t c = finish _ _ _ _ _ _ _ _ _ c.loop-step.invariant.0 c.in_default.ensures.step

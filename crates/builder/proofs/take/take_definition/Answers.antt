-- A definition is left out, or it is built and kept.
use Rattle.std.proofs.Common.{◌≡◌, ℕ, ◌+◌, ◌≤◌, Bool, List, [], ◌∷◌, length, sym, refl, ap, ◌∙◌, subst, arith, rules}
use Rattle.layout.specs.Forest.{Forest, none}
use Rattle.document.specs.Rows.{Selection, head_of}
use Rattle.schema.specs.Meaning.{Meaning}
use Rattle.document.proofs.Keys.{same_set}
use Rattle.selection_rules.specs.declared.error.BuildError.{BuildError}
use Rattle.selection_rules.specs.declared.error.ExecutableDefinitionName.{ExecutableDefinitionName}
use Rattle.selection_rules.specs.Errors.{Path, error_rows}
use Rattle.selection_rules.specs.Sets.{build, errors}
use Rattle.building_rules.specs.Definitions.{Accepted, start_path, root_name, role_of}
use Rattle.building_rules.specs.Bounds.{needs_for}
use Rattle.stored_tables.specs.declared.definition.StoredDefinition.{StoredDefinition}
use Rattle.stored_tables.specs.Layout.{stored_definition, stored_head}
use Rattle.builder.specs.Filling.{put, Output, output, filled_to, with_set, path_of}
use Rattle.builder.specs.Holding.{Held, held}
use Rattle.builder.specs.Storing.{store_as}
use Rattle.builder.specs.Taking.{handed_in, Ready}
use Rattle.builder.specs.Space.{Space}
use Rattle.builder.proofs.Bounds.{set_few}
use Rattle.builder.proofs.Kepts.{same_held}
use Rattle.builder.proofs.Ones.{held_with, own, own_output, left_out, all, place, set_output, stored_in_place}
use Rattle.builder.proofs.take.take_definition.Goals as goal

pub returns-in_default-clause-taken : goal.returns-in_default-clause-taken
returns-in_default-clause-taken g c f holds =
    let m : Meaning = g.S.Schema.meaning c.args.schema.now in
    let a = c.args in
    let h = held a.progress a.operations.now a.operation_slots.now a.fragments.now a.fragment_slots.now a.rows.now a.errors.now a.path_keys.now in
    let d = handed_in (head_of a.row.now) f a.strict in
    let e = c.rule_on-ruling.ensures in
    let l = c.list_ruling-next in
    same_held refl refl (own_output m h d _ l.new.errors l.result e.errors l.ensures.listed l.ensures.counted) refl e.multiple
    ∙ left_out m h d (sym e.stored ∙ c.in_default.is)

-- what the tables hold once the selections are built
built : (m : Meaning) (h : Held) (d : Accepted) (t : ℕ) (told : List BuildError) (es : List BuildError) (n : ℕ) (root : ExecutableDefinitionName) (p : Path) (o : Output)
    → told ≡ error_rows 0 (own m h d) → es ≡ put h.output.errors h.output.filled.errors told → n ≡ h.output.filled.errors + length told
    → root ≡ root_name d.head → p ≡ record { root = root; keys = [] } → Space h (needs_for (d ∷ []))
    → o ≡ with_set (output h.output.rows es h.output.path_keys (filled_to h.output.filled.rows n h.output.filled.path_keys)) (build m t d.selected) (errors m p t d.selected)
    → o ≡ with_set h.output (build m t d.selected) (all m h d t)
built m h d t told es n root p o tells is count named starts space made =
    let f = build m t d.selected in
    let path : p ≡ start_path d.head = starts ∙ ap (λ (r : ExecutableDefinitionName). record { root = r; keys = [] }) named in
    made
    ∙ ap (λ (x : Output). with_set x f (errors m p t d.selected)) (own_output m h d told es n tells is count)
    ∙ ap (λ (x : Path). with_set (with_set h.output none (own m h d)) f (errors m x t d.selected)) path
    ∙ set_output m h d t (omega (arith, space.errors_fit)) (omega (arith, space.keys_fit))

pub overflow_cast-next : goal.overflow_cast-next
overflow_cast-next g c =
    let m : Meaning = g.S.Schema.meaning c.args.schema.now in
    let a = c.args in
    let f = c.requires.ready.0 in
    let ready = c.requires.ready.1 in
    let few = set_few m (path_of c.start-path.result) c.in-Some.set_type f in
    let count = ap (λ (o : Output). o.filled.rows) (c.build_set-next.ensures.built f ready.holds) in
    let low : c.build_set-next.result.rows ≤ 16384 = omega (arith, ready.space.rows_few) in
    search rules

pub returns-clause-taken : goal.returns-clause-taken
returns-clause-taken g c f holds =
    let m : Meaning = g.S.Schema.meaning c.args.schema.now in
    let a = c.args in
    let h = held a.progress a.operations.now a.operation_slots.now a.fragments.now a.fragment_slots.now a.rows.now a.errors.now a.path_keys.now in
    let d = handed_in (head_of a.row.now) f a.strict in
    let t = c.in-Some.set_type in
    let e = c.rule_on-ruling.ensures in
    let l = c.list_ruling-next in
    let b = c.build_set-next in
    let ready : Ready a.document.now.rows.now a.set d h = subst (λ (x : Forest Selection). Ready a.document.now.rows.now a.set (handed_in (head_of a.row.now) x a.strict) h) (same_set _ _ _ _ c.requires.ready.1.holds holds) c.requires.ready.1 in
    let o : Output = output b.new.rows b.new.errors b.new.path_keys b.result in
    let done = built m h d t _ l.new.errors l.result c.root_name_of.result (path_of c.start-path.result) o e.errors l.ensures.listed l.ensures.counted c.root_name_of.ensures c.start-path.ensures.path ready.space (b.ensures.built f holds) in
    let whole : c.new-definition.result ≡ place m h d t = c.new-definition.ensures ∙ ap (λ (x : Output). stored_definition (head_of a.row.now) a.progress.filled.rows x.filled.rows t) done in
    c.keep_definition.ensures.kept b.new.rows b.new.errors b.new.path_keys
    ∙ ap (λ (x : StoredDefinition). store_as (role_of (stored_head x)) (held_with h o c.rule_on-ruling.result.multiple_anonymous) x) whole
    ∙ ap (λ (x : Output). store_as (role_of d.head) (held_with h x c.rule_on-ruling.result.multiple_anonymous) (place m h d t)) done
    ∙ ap (λ (x : Bool). store_as (role_of d.head) (held_with h (with_set h.output (build m t f) (all m h d t)) x) (place m h d t)) e.multiple
    ∙ stored_in_place m h d t (sym e.stored ∙ c.in-Some.is)

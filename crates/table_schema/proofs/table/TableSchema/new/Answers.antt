-- Rows are refused at their first fault, and else the copies mean what the rows mean.
use Rattle.std.proofs.Common.{◌≡◌, ℕ, false, List, map, Some, Ok, Err, Result, vec_items, sym, ap, ◌∙◌, subst}
use Rattle.std.specs.Result.{IsErrAnd}
use Rattle.std.proofs.lemmas.List.{with_items_is}
use Rattle.std.proofs.lemmas.Bool.{cond-false}
use Rattle.ordered_index.specs.declared.keys.TypeField.{TypeField}
use Rattle.ordered_index.specs.Keys.{same_name, name_hash, same_field, field_hash}
use Rattle.ordered_index.specs.Sound.{Sound}
use Rattle.table_schema.specs.declared.rows.TypeRow.{TypeRow}
use Rattle.table_schema.specs.declared.rows.FieldRow.{FieldRow}
use Rattle.table_schema.specs.declared.rows.RootTypes.{RootTypes}
use Rattle.table_schema.specs.declared.rows.FieldEntry.{FieldEntry}
use Rattle.table_schema.specs.declared.fault.SchemaFault.{SchemaFault}
use Rattle.table_schema.specs.declared.fault.MakeFault.{MakeFault}
use Rattle.table_schema.specs.declared.fault.MakeFault.TheVariants.{Rows, NoMemory}
use Rattle.table_schema.specs.declared.table.TableSchema.{TableSchema}
use Rattle.table_schema.specs.Table.{Makes, schema_fault}
use Rattle.table_schema.specs.Keys.{type_key, entry_key}
use Rattle.table_schema.specs.Meaning.{known_type, kind_of, root_of}
use Rattle.table_schema.specs.Kept.{entries_from, kept_field, OwnersKnown}
use Rattle.table_schema.specs.Verdict.{over_limit}
use Rattle.table_schema.proofs.Entries.{entry_keys, kept_means, owners_known, index_accepted, index_refused}
use Rattle.table_schema.proofs.table.TableSchema.new.Goals as goal

module _ (types : List TypeRow) (rows : List FieldRow) (roots : RootTypes) where
  no_memory : (r : Result TableSchema MakeFault) → IsErrAnd r (λ e. e ≡ NoMemory) → over_limit types rows ≡ false → Makes types rows roots r
  no_memory (Ok schema) is few = absurd is
  no_memory (Err e) is few = subst (λ (x : MakeFault). Makes types rows roots (Err x)) (sym is) few

  faulty : (r : Result TableSchema MakeFault) (fault : SchemaFault) → IsErrAnd r (λ e. e ≡ Rows fault) → schema_fault types rows ≡ Some fault → Makes types rows roots r
  faulty (Ok schema) fault is first = absurd is
  faulty (Err e) fault is first = subst (λ (x : MakeFault). Makes types rows roots (Err x)) (sym is) first

pub returns-in_err-index_rows : goal.returns-in_err-index_rows
returns-in_err-index_rows c =
    let types = c.args.rows.now.types.now in
    let rows = c.args.rows.now.fields.now in
    faulty types rows c.args.rows.now.roots _ c.in_err-index_rows.field-0.0 c.from_residual-in_err-index_rows.ensures.1
    (index_refused types rows c.as_mut_slice.result.now c.as_mut_slice-2.result.now c.in_err-index_rows.field-0.0
    (c.as_mut_slice.ensures.value ∙ c.in_ok-type_slots.ensures) (c.as_mut_slice-2.ensures.value ∙ c.in_ok-field_slots.ensures)
    c.in_err-index_rows.ensures.verdict)

pub returns-in_err-types : goal.returns-in_err-types
returns-in_err-types c =
    no_memory c.args.rows.now.types.now c.args.rows.now.fields.now c.args.rows.now.roots _ c.from_residual-in_err-types.ensures.1
    (sym c.is_over_limit.ensures ∙ c.if-is_over_limit.false)

pub new-requires : goal.new-requires
new-requires c =
    let same = c.in_ok-types.ensures.items_if_clones_equal (λ x y is. is) in
    let slots = with_items_is c.in_ok-type_slots.type_slots c.index_rows.new.type_slots (c.index_rows.auto.type_slots ∙ c.as_mut_slice.ensures.len) in
    subst (λ (slots : List ℕ). Sound same_name name_hash (map type_key (vec_items c.in_ok-types.types)) slots) (sym slots)
    (subst (λ (keys : List ℕ). Sound same_name name_hash keys c.index_rows.new.type_slots) (sym (ap (map type_key) same)) c.in_ok-index_rows.ensures.slots.0)

pub new-requires-2 : goal.new-requires-2
new-requires-2 c =
    let rows = c.args.rows.now.fields.now in
    let slots = with_items_is c.in_ok-field_slots.field_slots c.index_rows.new.field_slots (c.index_rows.auto.field_slots ∙ c.as_mut_slice-2.ensures.len) in
    subst (λ (slots : List ℕ). Sound same_field field_hash (map entry_key (vec_items c.in_ok-fields.fields)) slots) (sym slots)
    (subst (λ (keys : List TypeField). Sound same_field field_hash keys c.index_rows.new.field_slots)
    (sym (ap (map entry_key) c.in_ok-fields.ensures ∙ entry_keys 0 rows)) c.in_ok-index_rows.ensures.slots.1)

pub invariant_of-result : goal.invariant_of-result
invariant_of-result c =
    let types = c.args.rows.now.types.now in
    let rows = c.args.rows.now.fields.now in
    let fine = index_accepted types rows c.as_mut_slice.result.now c.as_mut_slice-2.result.now c.in_ok-index_rows.ensures.verdict in
    let kept-types : vec_items c.new.result.entries ≡ types = ap vec_items c.new.ensures ∙ c.in_ok-types.ensures.items_if_clones_equal (λ x y is. is) in
    let kept-fields : vec_items c.new-2.result.entries ≡ entries_from 0 rows = ap vec_items c.new-2.ensures ∙ c.in_ok-fields.ensures in
    record {
      owners_known = subst (λ (ts : List TypeRow). OwnersKnown ts (vec_items c.new-2.result.entries)) (sym kept-types)
          (subst (λ (es : List FieldEntry). OwnersKnown types es) (sym kept-fields) (owners_known types rows fine.1));
    }

pub returns : goal.returns
returns c =
    let types = c.args.rows.now.types.now in
    let rows = c.args.rows.now.fields.now in
    let fine = index_accepted types rows c.as_mut_slice.result.now c.as_mut_slice-2.result.now c.in_ok-index_rows.ensures.verdict in
    let kept-types : vec_items c.new.result.entries ≡ types = ap vec_items c.new.ensures ∙ c.in_ok-types.ensures.items_if_clones_equal (λ x y is. is) in
    let kept-fields : vec_items c.new-2.result.entries ≡ entries_from 0 rows = ap vec_items c.new-2.ensures ∙ c.in_ok-fields.ensures in
    let fields = ap (λ ts. kept_field ts (vec_items c.new-2.result.entries)) kept-types ∙ ap (kept_field types) kept-fields ∙ kept_means types rows in (
      cond-false _ _ _ fine.0 ∙ fine.1,
      λ i. record {
        root = root_of c.args.rows.now.roots;
        known = known_type (kept-types i);
        sort = kind_of (kept-types i);
        field = fields i;
      },
    )

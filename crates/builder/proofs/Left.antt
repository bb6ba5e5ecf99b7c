-- What is left of a set, at the start of a turn, gives what was to be built.
use Rattle.std.proofs.Common.{◌≡◌, ℕ, suc, ◌+◌, ◌<◌, ◌≤◌, max, Bool, true, false, cond, List, [], ◌∷◌, ◌++◌, length, Some, None, sym, refl, ap, ◌∙◌, subst, arith, length-append, length-set}
use Rattle.layout.specs.Forest.{Forest, none, row, size, depth, flatten}
use Rattle.layout.proofs.Tables.{length-flatten}
use Rattle.document.specs.declared.rows.SelectionRow.{SelectionRow}
use Rattle.document.specs.declared.handed.sets.SelectionSet.{SelectionSet}
use Rattle.document.specs.declared.handed.sets.SelectionStep.{SelectionStep}
use Rattle.document.specs.Rows.{Selection, selection_of, is_field}
use Rattle.document.specs.Sets.{next_of, Holds}
use Rattle.document.specs.Needs.{way, forest_keys}
use Rattle.document.proofs.Keys.{stepped, ended, same_set}
use Rattle.schema.specs.Meaning.{Meaning}
use Rattle.selection_rules.specs.declared.stored.StoredRow.{StoredRow}
use Rattle.selection_rules.specs.declared.settling.SelectionFault.{SelectionFault}
use Rattle.selection_rules.specs.declared.settling.Settled.TheVariants.{Kept, Dropped, Faulty}
use Rattle.selection_rules.specs.Stored.{Stored, stored_in, stored_row}
use Rattle.selection_rules.specs.Sets.{settled_in}
use Rattle.selection_rules.specs.Errors.{Path, Error, keys_of, keys_in, error_rows}
use Rattle.selection_rules.specs.Sets.{path_to, some_row, error_of, listed, errors, keep, build}
use Rattle.building_rules.proofs.Fits.{fault_keys, keys_few, way_long}
use Rattle.builder.specs.Filling.{Output, with_set, Room}
use Rattle.builder.proofs.Puts.{length-put}
use Rattle.builder.proofs.Outputs.{nothing_more, errors_then, opened_with, closed_with, row_then, length_rows}
use Rattle.builder.proofs.Bounds.{set_few}

-- the tables are as long as they were
pub record AsLong (o b : Output) : Type 0 where
  pub rows : length b.rows ≡ length o.rows
  pub errors : length b.errors ≡ length o.errors
  pub keys : length b.path_keys ≡ length o.path_keys

pub filled_long : (o : Output) (f : Forest Stored) (es : List Error) → o.filled.rows + size f ≤ length o.rows
    → o.filled.errors + length es ≤ length o.errors → o.filled.path_keys + length (keys_in es) ≤ length o.path_keys → AsLong o (with_set o f es)
filled_long o f es a b c =
    let rows = length-flatten stored_row o.filled.rows f in
    let many = length_rows o.filled.path_keys es in
    record {
      rows = length-put o.rows o.filled.rows (flatten stored_row o.filled.rows f) (omega arith);
      errors = length-put o.errors o.filled.errors (error_rows o.filled.path_keys es) (omega arith);
      keys = length-put o.path_keys o.filled.path_keys (keys_in es) c;
    }

one_more_of : (b : Bool) (above : ℕ) → above + cond b 1 0 ≤ above + 1
one_more_of true above = omega arith
one_more_of false above = omega arith

-- a selection opens at most one field
one_more : (above : ℕ) (s : Selection) → way above s ≤ above + 1
one_more above s = one_more_of (is_field s) above

module _ (m : Meaning) (handed : List SelectionRow) (set₀ : SelectionSet) (around above : ℕ) (p : Path) (o₀ : Output) where
  pub record Left (rest : SelectionSet) (o : Output) : Type 0 where
    pub left : Forest Selection
    pub room : Room handed rest above o left
    pub gives : (f : Forest Selection) → Holds handed set₀ f → with_set o (build m around left) (errors m p around left) ≡ with_set o₀ (build m around f) (errors m p around f)
    pub same_end : rest.end ≡ set₀.end
    pub past : set₀.next ≤ rest.next

  pub begin : (f : Forest Selection) → Room handed set₀ above o₀ f → Left set₀ o₀
  begin f room =
      record {
        left = f;
        room = room;
        gives = λ g holds. ap (λ (x : Forest Selection). with_set o₀ (build m around x) (errors m p around x)) (same_set handed set₀ f g room.holds holds);
        same_end = refl;
        past = omega arith;
      }

  pub finish : (rest : SelectionSet) (o : Output) (w : Left rest o) → None ≡ next_of handed rest → (f : Forest Selection) → Holds handed set₀ f
      → o ≡ with_set o₀ (build m around f) (errors m p around f)
  finish rest o w over f holds =
      let none_left = ended handed rest w.left w.room.holds over in
      sym (nothing_more o) ∙ ap (λ (x : Forest Selection). with_set o (build m around x) (errors m p around x)) (sym none_left) ∙ w.gives f holds

  -- a step over a selection of what is left
  pub record Turn (rest : SelectionSet) (g : Forest Selection) (step : SelectionStep) : Type 0 where
    pub below : Forest Selection
    pub after : Forest Selection
    pub is : g ≡ row (selection_of step.row) below after
    pub beneath : Holds handed step.beneath below
    pub beyond : Holds handed step.after after
    pub many : size g ≡ suc (size below + size after)
    pub lower : way above (selection_of step.row) + depth below ≤ 32
    pub later : above + depth after ≤ 32
    pub shallow : above < 32
    pub opens : way above (selection_of step.row) ≤ above + 1
    pub keys : forest_keys above g ≡ way above (selection_of step.row) + (forest_keys (way above (selection_of step.row)) below + forest_keys above after)
    pub starts : step.beneath.next ≡ rest.next + 1
    pub low : rest.next < step.after.next
    pub meets : step.beneath.end ≡ step.after.next
    pub high : step.after.next ≤ rest.end
    pub ends : step.after.end ≡ rest.end

  pub turn : (rest : SelectionSet) (o : Output) (w : Left rest o) (step : SelectionStep) → Some step ≡ next_of handed rest → Turn rest w.left step
  turn rest o w step next =
      let st = stepped handed rest w.left step w.room.holds next in
      let s = selection_of step.row in
      let is : w.left ≡ row s st.below st.after = st.is ∙ ap (λ x. row x st.below st.after) (sym st.own) in
      let deep : depth w.left ≡ max (suc (depth st.below)) (depth st.after) = ap depth is in
      let one = one_more above s in
      let shallow = w.room.shallow in
      record {
        below = st.below;
        after = st.after;
        is = is;
        beneath = st.beneath;
        beyond = st.beyond;
        many = ap size is;
        lower = omega arith;
        later = omega arith;
        shallow = omega arith;
        opens = omega arith;
        keys = ap (forest_keys above) is;
        starts = st.starts;
        low = omega (arith, st.starts, st.meets, st.beneath.stand.ends);
        meets = st.meets;
        high = omega (arith, st.ends, st.beyond.stand.ends);
        ends = st.ends;
      }

  -- a selection that is left out without an error
  pub dropped : (rest : SelectionSet) (o : Output) (w : Left rest o) (step : SelectionStep) (t : Turn rest w.left step)
      → settled_in m around (selection_of step.row) (some_row t.below) ≡ Dropped → Left step.after o
  dropped rest o w step t out =
      let s = selection_of step.row in
      let room = w.room in
      let built : build m around w.left ≡ build m around t.after =
      ap (build m around) t.is ∙ ap (λ v. keep v s (λ inner. build m inner t.below) (build m around t.after)) out
      in
      let told : errors m p around w.left ≡ errors m p around t.after =
      ap (errors m p around) t.is ∙ ap (λ v. listed v (path_to p s) around s (λ inner. errors m (path_to p s) inner t.below) ++ errors m p around t.after) out
      in
      record {
        left = t.after;
        room = record {
          holds = t.beyond;
          shallow = t.later;
          rows_fit = omega (arith, t.many, room.rows_fit);
          rows_few = omega (arith, t.many, room.rows_few);
          errors_fit = omega (arith, t.many, room.errors_fit);
          keys_fit = omega (arith, t.keys, room.keys_fit);
          keys_few = omega (arith, t.keys, room.keys_few);
        };
        gives = λ f holds. ap (λ x. with_set o x (errors m p around t.after)) (sym built) ∙ ap (with_set o (build m around w.left)) (sym told) ∙ w.gives f holds;
        same_end = t.ends ∙ w.same_end;
        past = omega (arith, t.low, w.past);
      }

  -- a selection that is left out with an error
  pub faulty : length p.keys ≡ above → (rest : SelectionSet) (o : Output) (w : Left rest o) (step : SelectionStep) (t : Turn rest w.left step) (fault : SelectionFault)
      → settled_in m around (selection_of step.row) (some_row t.below) ≡ Faulty fault
      → (b : Output) → b ≡ with_set o none (error_of fault (path_to p (selection_of step.row)) around (selection_of step.row) ∷ []) → Left step.after b
  faulty even rest o w step t fault out b is =
      let s = selection_of step.row in
      let e = error_of fault (path_to p s) around s in
      let room = w.room in
      let built : build m around w.left ≡ build m around t.after =
      ap (build m around) t.is ∙ ap (λ v. keep v s (λ inner. build m inner t.below) (build m around t.after)) out
      in
      let told : errors m p around w.left ≡ e ∷ errors m p around t.after =
      ap (errors m p around) t.is ∙ ap (λ v. listed v (path_to p s) around s (λ inner. errors m (path_to p s) inner t.below) ++ errors m p around t.after) out
      in
      let own : length (keys_in (e ∷ [])) ≡ way above s =
      length-append (keys_of e) [] ∙ omega (arith, ap length (fault_keys fault (path_to p s) around s), way_long p s, ap (λ n. way n s) even)
      in
      let errors_fit : o.filled.errors + 1 ≤ length o.errors = omega (arith, t.many, room.errors_fit) in
      let keys_fit : o.filled.path_keys + length (keys_in (e ∷ [])) ≤ length o.path_keys = omega (arith, t.keys, room.keys_fit) in
      let long = filled_long o none (e ∷ []) (omega (arith, t.many, room.rows_fit)) errors_fit keys_fit in
      let after : Left step.after (with_set o none (e ∷ [])) =
      record {
        left = t.after;
        room = record {
          holds = t.beyond;
          shallow = t.later;
          rows_fit = omega (arith, t.many, room.rows_fit, long.rows);
          rows_few = omega (arith, t.many, room.rows_few);
          errors_fit = omega (arith, t.many, room.errors_fit, long.errors);
          keys_fit = omega (arith, t.keys, room.keys_fit, long.keys);
          keys_few = omega (arith, t.keys, room.keys_few);
        };
        gives = λ f holds.
            errors_then o (e ∷ []) (build m around t.after) (errors m p around t.after) errors_fit keys_fit
            ∙ ap (λ x. with_set o x (e ∷ errors m p around t.after)) (sym built) ∙ ap (with_set o (build m around w.left)) (sym told) ∙ w.gives f holds;
        same_end = t.ends ∙ w.same_end;
        past = omega (arith, t.low, w.past);
      }
      in
      subst (Left step.after) (sym is) after

  -- the room for what stands beneath a selection that is kept
  pub beneath : (rest : SelectionSet) (o : Output) (w : Left rest o) (step : SelectionStep) (t : Turn rest w.left step) (r : StoredRow)
      → (d : ℕ) → d ≡ way above (selection_of step.row) → Room handed step.beneath d (opened_with o r) t.below
  beneath rest o w step t r d deep =
      let room = w.room in
      let paths = ap (λ (n : ℕ). forest_keys n t.below) deep in
      let long = length-set o.rows o.filled.rows r in
      record {
        holds = t.beneath;
        shallow = omega (arith, t.lower);
        rows_fit = omega (arith, t.many, room.rows_fit);
        rows_few = omega (arith, t.many, room.rows_few);
        errors_fit = omega (arith, t.many, room.errors_fit);
        keys_fit = omega (arith, t.keys, room.keys_fit);
        keys_few = omega (arith, t.keys, room.keys_few);
      }

  -- a selection that is kept, with what its set's build gave
  pub kept : length p.keys ≡ above → (rest : SelectionSet) (o : Output) (w : Left rest o) (step : SelectionStep) (t : Turn rest w.left step) (place inner : ℕ)
      → settled_in m around (selection_of step.row) (some_row t.below) ≡ Kept place inner
      → (b : Output) → b ≡ with_set (opened_with o (stored_row (stored_in (selection_of step.row) place inner) 0)) (build m inner t.below) (errors m (path_to p (selection_of step.row)) inner t.below)
      → Left step.after (closed_with b o.filled.rows (stored_in (selection_of step.row) place inner))
  kept even rest o w step t place inner out b is =
      let s = selection_of step.row in
      let a = stored_in s place inner in
      let room = w.room in
      let under = build m inner t.below in
      let es = errors m (path_to p s) inner t.below in
      let built : build m around w.left ≡ row a under (build m around t.after) =
      ap (build m around) t.is ∙ ap (λ v. keep v s (λ i. build m i t.below) (build m around t.after)) out
      in
      let told : errors m p around w.left ≡ es ++ errors m p around t.after =
      ap (errors m p around) t.is ∙ ap (λ v. listed v (path_to p s) around s (λ i. errors m (path_to p s) i t.below) ++ errors m p around t.after) out
      in
      let few = set_few m (path_to p s) inner t.below in
      let open-keys : length (path_to p s).keys ≡ way above s = way_long p s ∙ ap (λ n. way n s) even in
      let paths = subst (λ (n : ℕ). length (keys_in es) ≤ forest_keys n t.below) open-keys (keys_few m (path_to p s) inner t.below) in
      let errors_fit : o.filled.errors + length es ≤ length o.errors = omega (arith, t.many, room.errors_fit) in
      let keys_fit : o.filled.path_keys + length (keys_in es) ≤ length o.path_keys = omega (arith, t.keys, room.keys_fit) in
      let wide = length-set o.rows o.filled.rows (stored_row a 0) in
      let long = filled_long (opened_with o (stored_row a 0)) under es (omega (arith, t.many, room.rows_fit)) errors_fit keys_fit in
      let done = with_set (opened_with o (stored_row a 0)) under es in
      let closed = length-set done.rows o.filled.rows (stored_row a done.filled.rows) in
      let after : Left step.after (closed_with done o.filled.rows a) =
      record {
        left = t.after;
        room = record {
          holds = t.beyond;
          shallow = t.later;
          rows_fit = omega (arith, t.many, room.rows_fit, long.rows);
          rows_few = omega (arith, t.many, room.rows_few);
          errors_fit = omega (arith, t.many, room.errors_fit, long.errors);
          keys_fit = omega (arith, t.keys, room.keys_fit, long.keys);
          keys_few = omega (arith, t.keys, room.keys_few);
        };
        gives = λ f holds.
            row_then o a under (build m around t.after) es (errors m p around t.after) (omega (arith, t.many, room.rows_fit)) errors_fit keys_fit
            ∙ ap (λ x. with_set o x (es ++ errors m p around t.after)) (sym built) ∙ ap (with_set o (build m around w.left)) (sym told) ∙ w.gives f holds;
        same_end = t.ends ∙ w.same_end;
        past = omega (arith, t.low, w.past);
      }
      in
      subst (λ x. Left step.after (closed_with x o.filled.rows a)) (sym is) after

  -- the rows that are filled then are few
  pub few_beneath : (rest : SelectionSet) (o : Output) (w : Left rest o) (step : SelectionStep) (t : Turn rest w.left step) (inner : ℕ) (r : StoredRow)
      → (q : Path) (b : Output) → b ≡ with_set (opened_with o r) (build m inner t.below) (errors m q inner t.below) → b.filled.rows ≤ 16384
  few_beneath rest o w step t inner r q b is =
      let few = set_few m q inner t.below in
      let count = ap (λ (x : Output). x.filled.rows) is in
      omega (arith, t.many, w.room.rows_few)

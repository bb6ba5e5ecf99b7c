-- Path keys: what one selection more adds, and that they stay few.
use Rattle.std.proofs.Common.{◌≡◌, ℕ, suc, ◌+◌, ◌*◌, ◌<◌, ◌≤◌, max, Bool, true, false, leb, cond, List, [], ◌∷◌, length, get_or, drop, Some, None, count_by, sym, refl, ap, ◌∙◌, subst, arith}
use Rattle.layout.specs.Forest.{Forest, none, row, size, depth, flatten}
use Rattle.layout.proofs.Tables.{forest_read, length-flatten}
use Rattle.document.specs.declared.rows.SelectionRow.{SelectionRow}
use Rattle.document.specs.declared.handed.sets.SelectionSet.{SelectionSet}
use Rattle.document.specs.declared.handed.sets.SelectionStep.{SelectionStep}
use Rattle.document.specs.Rows.{Selection, Head, head_of, definition_row, selections, selection_of, selection_row, is_field}
use Rattle.document.specs.Sets.{no_row, no_definition_row, set_of, next_of, step_at, Holds, Follows}
use Rattle.document.specs.declared.rows.DefinitionRow.{DefinitionRow}
use Rattle.document.specs.Document.{Definition, no_definition, definition_rows, selection_rows, KeepsRules, IsDocument}
use Rattle.document.specs.Needs.{way, forest_keys, rows_in, keys_in}
use Rattle.std.proofs.lemmas.Bool.{leb-true}
use Rattle.std.specs.List.{AllByRecursion}
use Rattle.std.proofs.ByRecursion.{All-get_or}
use Rattle.std.proofs.lemmas.List.{at_drop_more, at_drop_all, length-append}
use Rattle.std.proofs.lemmas.List.Sums.{sum_by-cons}
use Rattle.document.proofs.Sets.{row_holds, next_follows, rows_many}

one_more : (b : Bool) → cond b 1 0 ≤ 1
one_more true = omega arith
one_more false = omega arith

-- no row has more than 32
pub few_keys : (f : Forest Selection) (above : ℕ) → above + depth f ≤ 32 → forest_keys above f ≤ 32 * size f
few_keys none above shallow = omega arith
few_keys (row s below after) above shallow =
    grind (arith, few_keys below (way above s) (let one = one_more (is_field s) in omega arith), few_keys after above (omega arith))

-- a step over a selection of a forest
pub record Stepped (rows : List SelectionRow) (set : SelectionSet) (g : Forest Selection) (step : SelectionStep) : Type 0 where
  pub selection : Selection
  pub below : Forest Selection
  pub after : Forest Selection
  pub is : g ≡ row selection below after
  pub own : selection_of step.row ≡ selection
  pub beneath : Holds rows step.beneath below
  pub beyond : Holds rows step.after after
  pub starts : step.beneath.next ≡ set.next + 1
  pub meets : step.beneath.end ≡ step.after.next
  pub ends : step.after.end ≡ set.end

stepped_at : (rows : List SelectionRow) (set : SelectionSet) (g : Forest Selection) (step : SelectionStep) → step ≡ step_at (get_or rows set.next no_row) set.next set.end
    → Follows rows set g (Some step) → Stepped rows set g step
stepped_at rows set none step at follows = grind arith
stepped_at rows set (row s below after) step at follows =
    record {
      selection = s;
      below = below;
      after = after;
      is = refl;
      own = follows.1;
      beneath = follows.2;
      beyond = follows.3;
      starts = grind arith;
      meets = grind arith;
      ends = grind arith;
    }

pub stepped : (rows : List SelectionRow) (set : SelectionSet) (g : Forest Selection) (step : SelectionStep) → Holds rows set g → Some step ≡ next_of rows set → Stepped rows set g step
stepped rows set g step holds is =
    stepped_at rows set g step (grind arith) (subst (Follows rows set g) (sym is) (next_follows rows set g holds))

-- a set with no next selection stands for no row
pub ended : (rows : List SelectionRow) (set : SelectionSet) (g : Forest Selection) → Holds rows set g → None ≡ next_of rows set → g ≡ none
ended rows set none holds is = refl
ended rows set (row s below after) holds is = absurd (subst (Follows rows set (row s below after)) (sym is) (next_follows rows set (row s below after) holds))

-- a set with no selection left has no keys
pub no_keys : (rows : List SelectionRow) (set : SelectionSet) (above : ℕ) (f : Forest Selection) → Holds rows set f → leb set.end set.next ≡ true → forest_keys above f ≡ 0
no_keys rows set above none holds low = refl
no_keys rows set above (row s below after) holds low = absurd (omega (arith, leb-true set.end set.next low, holds.stand.ends))

-- a set stands for one forest only
pub same_set : (rows : List SelectionRow) (set : SelectionSet) (f g : Forest Selection) → Holds rows set f → Holds rows set g → f ≡ g
same_set rows set f g a b =
    sym (forest_read selections rows set.next set.end f a.stand) ∙ forest_read selections rows set.next set.end g b.stand

-- a step in the counting of path keys
pub record Turned (rows : List SelectionRow) (set : SelectionSet) (above : ℕ) (g : Forest Selection) (step : SelectionStep) (w : ℕ) : Type 0 where
  pub below : Forest Selection
  pub after : Forest Selection
  pub beneath : Holds rows step.beneath below
  pub beyond : Holds rows step.after after
  pub lower : w + depth below ≤ 32
  pub later : above + depth after ≤ 32
  pub sums : forest_keys above g ≡ w + (forest_keys w below + forest_keys above after)
  pub starts : step.beneath.next ≡ set.next + 1
  pub low : set.next < step.after.next
  pub meets : step.beneath.end ≡ step.after.next
  pub high : step.after.next ≤ set.end
  pub ends : step.after.end ≡ set.end

pub turned : (rows : List SelectionRow) (set : SelectionSet) (above : ℕ) (g : Forest Selection) (step : SelectionStep) (w : ℕ)
    → Holds rows set g → above + depth g ≤ 32 → Some step ≡ next_of rows set → w ≡ way above (selection_of step.row) → Turned rows set above g step w
turned rows set above g step w holds shallow is wide =
    let st = stepped rows set g step holds is in
    let s = st.selection in
    let deep : depth g ≡ max (suc (depth st.below)) (depth st.after) = ap depth st.is in
    let own : w ≡ way above s = wide ∙ ap (way above) st.own in
    let one = one_more (is_field s) in
    record {
      below = st.below;
      after = st.after;
      beneath = st.beneath;
      beyond = st.beyond;
      lower = omega arith;
      later = omega arith;
      sums = grind (arith, st.is, own);
      starts = st.starts;
      low = omega (arith, st.starts, st.meets, st.beneath.stand.ends);
      meets = st.meets;
      high = omega (arith, st.ends, st.beyond.stand.ends);
      ends = st.ends;
    }

-- the keys of a set of few rows
pub set_keys : (rows : List SelectionRow) (set : SelectionSet) (above : ℕ) (f : Forest Selection) → length rows ≤ 4096 → Holds rows set f → above + depth f ≤ 32 → forest_keys above f ≤ 131072
set_keys rows set above f few holds shallow = omega (arith, few_keys f above shallow, holds.stand.ends, holds.within)

module _ (rows : List SelectionRow) where
  -- no document of few rows has more than 32 for each
  few_in : (s : ℕ) (docs : List Definition) → AllByRecursion KeepsRules docs → keys_in docs ≤ 32 * rows_in docs
  few_in s [] keep = omega arith
  few_in s (d ∷ docs) keep = grind (arith, few_keys d.selected 0 (omega (arith, keep.0.shallow)), few_in s docs keep.1)

  pub all_rows : (s : ℕ) (docs : List Definition) → length (selection_rows s docs) ≡ rows_in docs
  all_rows s [] = refl
  all_rows s (d ∷ docs) =
      grind (arith, length-flatten selection_row s d.selected, all_rows (s + size d.selected) docs, length-append (flatten selection_row s d.selected) (selection_rows (s + size d.selected) docs))

  document_keys : (ds : List DefinitionRow) (docs : List Definition) → IsDocument ds rows docs → keys_in docs ≤ 131072
  document_keys ds docs is = omega (arith, few_in 0 docs is.keep, ap length is.selected, all_rows 0 docs, is.short)

  pub as_many : (ds : List DefinitionRow) (docs : List Definition) → IsDocument ds rows docs → length docs ≡ length ds
  as_many ds docs is = sym (ap length is.heads ∙ rows_many rows 0 docs)

  -- the path keys of the definition at i are those of the forest that its set stands for
  pub record KeysAt (docs : List Definition) (i : ℕ) (set : SelectionSet) : Type 0 where
    pub holds : Holds rows set (get_or docs i no_definition).selected
    pub shallow : 0 + depth (get_or docs i no_definition).selected ≤ 32
    pub more : keys_in (drop i docs) ≡ forest_keys 0 (get_or docs i no_definition).selected + keys_in (drop (i + 1) docs)
    pub few : keys_in docs ≤ 131072

  pub keys_at : (ds : List DefinitionRow) (docs : List Definition) (i : ℕ) (set : SelectionSet) → IsDocument ds rows docs → i < length ds
      → set ≡ set_of (get_or ds i no_definition_row).first (get_or ds i no_definition_row).end → KeysAt docs i set
  keys_at ds docs i set is low at =
      let inside : i < length docs = omega (arith, as_many ds docs is) in
      record {
        holds = rw at (row_holds rows ds docs i is low);
        shallow = omega (arith, (All-get_or KeepsRules docs i no_definition inside is.keep).shallow);
        more = at_drop_more keys_in docs i no_definition inside;
        few = document_keys ds docs is;
      }

  -- past the last definition there are none
  pub keys_past : (ds : List DefinitionRow) (docs : List Definition) (i : ℕ) → IsDocument ds rows docs → length ds ≤ i → keys_in (drop i docs) ≡ 0
  keys_past ds docs i is high = at_drop_all keys_in docs i (omega (arith, as_many ds docs is))

-- counting rows is counting heads
pub count_heads : (p : Head → Bool) (s : ℕ) (docs : List Definition) → count_by (λ r. p (head_of r)) (definition_rows s docs) ≡ count_by (λ d. p d.head) docs
count_heads p s [] = refl
count_heads p s (d ∷ docs) =
    let rest = count_heads p (s + size d.selected) docs in
    let left = sum_by-cons (λ r. cond (p (head_of r)) 1 0) (definition_row d.head s (s + size d.selected)) (definition_rows (s + size d.selected) docs) in
    let right = sum_by-cons (λ x. cond (p x.head) 1 0) d docs in
    omega arith

-- Tables without a fault are the layout of a document, the layout of a document is without a fault, and there is one only.
use Rattle.std.proofs.Common.{◌≡◌, ℕ, ◌+◌, ◌≤◌, Bool, true, false, cond, not, ◌&&◌, eqb, ltb, List, [], ◌∷◌, ◌++◌, map, length, drop, Some, None, Ok, Err, Option, Result, sym, refl, ap, ◌∙◌, arith}
use Rattle.std.specs.List.{AllByRecursion}
use Rattle.std.specs.Result.{MatchResult}
use Rattle.std.proofs.lemmas.List.{drop_all, drop_at, drop-drop, take_at, length-append, length-drop}
use Rattle.std.proofs.lemmas.Bool.{cond-false, eq-eqb, le-ltb, ltb-false, or_from, not_from_true, false≢true}
use Rattle.refusal.specs.Firsts.{verdict_of}
use Rattle.refusal.proofs.Firsts.{at_row_none, or_else_none, verdict_ok, verdict_err}
use Rattle.layout.specs.declared.row.RowView.{RowView}
use Rattle.layout.specs.declared.row.Misfit.{Misfit}
use Rattle.layout.specs.Forest.{Forest, size, flatten}
use Rattle.layout.specs.Places.{first_misfit}
use Rattle.layout.proofs.Tables.{length-flatten, read-flatten}
use Rattle.layout.proofs.Forests.{lawful, clean}
use Rattle.document.specs.declared.rows.DefinitionRow.{DefinitionRow}
use Rattle.document.specs.declared.rows.SelectionRow.{SelectionRow}
use Rattle.document.specs.declared.fault.DocumentFault.{DocumentFault}
use Rattle.document.specs.declared.fault.DocumentFault.TheVariants.{TooManyDefinitions, TooManyRows, InDefinitions}
use Rattle.document.specs.Rows.{Selection, selections, selection_rules, selection_row, selection_view, definition_row, head_of, is_type_system}
use Rattle.document.specs.Document.{Definition, definition_rows, selection_rows, KeepsRules, IsDocument, ReadsAsOne, ReadsAsNone}
use Rattle.document.specs.Verdict.{misplaced, definition_fault, definitions_fault, is_nil, in_rows, rows_fault, size_fault, orphan_fault, layout_fault, document_fault}
use Rattle.document.specs.Sets.{no_row}
use Rattle.document.proofs.Steps.{Placed, placed}

in_rows_none : (m : Option Misfit) → in_rows m ≡ None → m ≡ None
in_rows_none None is = refl
in_rows_none (Some m) is = grind arith

off_under : (a b : Bool) → (a ≡ true → b ≡ true) → (a && not b) ≡ false
off_under true b holds = not_from_true b (holds refl)
off_under false b holds = refl

-- a definition in its place is without a fault
placed_fine : (d : DefinitionRow) (start : ℕ) (last : Bool) (rows : ℕ) → Placed d start last rows → definition_fault d start last rows ≡ None
placed_fine d start last rows at =
    let in_place : misplaced d start last rows ≡ false =
    or_from _ _ (not_from_true _ (eq-eqb d.first start at.begins))
    (or_from _ _ (le-ltb d.end d.first at.forward)
    (or_from _ _ (le-ltb rows d.end at.inside)
    (or_from _ _ (off_under last (eqb d.end rows) (λ is. eq-eqb d.end rows (at.ends is)))
    (off_under (is_type_system (head_of d)) (eqb d.first d.end) (λ is. eq-eqb d.first d.end (at.bare is)))))) in
    cond-false _ _ _ at.named ∙ cond-false _ _ _ (or_from _ _ at.whole in_place)

module _ (rows : List SelectionRow) where
  abbrev views : List RowView
  views = map selection_view rows

  -- a document whose definitions begin at s
  pub record Reads (s : ℕ) (ds : List DefinitionRow) : Type 0 where
    pub document : List Definition
    pub heads : ds ≡ definition_rows s document
    pub selected : drop s rows ≡ selection_rows s document
    pub keep : AllByRecursion KeepsRules document

  reads_from : (s i : ℕ) (ds : List DefinitionRow) → s ≤ length rows → (is_nil ds ≡ true → s ≡ length rows)
      → definitions_fault (length rows) s i ds ≡ None → rows_fault views ds ≡ None → Reads s ds
  reads_from s i [] low last fine clean-rows =
      record { document = []; heads = refl; selected = drop_all s rows (let is = last refl in omega arith); keep = tt }
  reads_from s i (d ∷ ds) low last fine clean-rows =
      let own = at_row_none InDefinitions (λ _. None) i (definition_fault d s (is_nil ds) (length rows)) (definitions_fault (length rows) d.end (i + 1) ds) fine in
      let at = placed d s (is_nil ds) (length rows) own.0 in
      let rest = or_else_none (in_rows (first_misfit views d.first d.end 32)) (rows_fault views ds) clean-rows in
      let begins = at.begins in
      let none_here : first_misfit views s d.end 32 ≡ None = grind (arith, begins, in_rows_none _ rest.0) in
      let forest = lawful selections selection_rules rows no_row s d.end 32 (omega (arith, at.forward)) at.inside none_here in
      let f = forest.0 in
      let ends : d.end ≡ s + size f = forest.1.stand.ends in
      let later = reads_from d.end (i + 1) ds at.inside at.ends own.1 rest.1 in
      record {
        document = record { head = head_of d; selected = f } ∷ later.document;
        heads = grind (arith, begins, ends, later.heads);
        selected = grind (arith, ends, later.selected, forest.1.stand.reads);
        keep = (
          record {
            named = at.named;
            whole = at.whole;
            bare = λ is. omega (arith, at.bare is);
            selections = forest.1.keeps;
            shallow = forest.1.shallow;
          },
          later.keep,
        );
      }

  nil_rows : (s : ℕ) (docs : List Definition) → is_nil (definition_rows s docs) ≡ true → selection_rows s docs ≡ []
  nil_rows s [] is = refl
  nil_rows s (d ∷ docs) is = absurd (false≢true is)

  clean_from : (s i : ℕ) (docs : List Definition) → s ≤ length rows → drop s rows ≡ selection_rows s docs → AllByRecursion KeepsRules docs
      → (definitions_fault (length rows) s i (definition_rows s docs) ≡ None) × (rows_fault views (definition_rows s docs) ≡ None)
  clean_from s i [] low reads keep = (refl, refl)
  clean_from s i (d ∷ docs) low reads keep =
      let f = d.selected in
      let e = s + size f in
      let r = definition_row d.head s e in
      let after = selection_rows e docs in
      let long = length-flatten selection_row s f in
      let total = ap length reads ∙ length-append (flatten selection_row s f) after in
      let left = length-drop s rows in
      let inside : e ≤ length rows = omega arith in
      let behind : drop e rows ≡ after = grind (arith, drop-drop (size f) s rows, drop_at (flatten selection_row s f) after (size f) long) in
      let kept = keep.0 in
      let at : Placed r s (is_nil (definition_rows e docs)) (length rows) =
      record {
        named = kept.named;
        whole = kept.whole;
        begins = refl;
        forward = omega arith;
        inside = inside;
        ends = λ is. let none_left = ap length (nil_rows e docs is) in omega arith;
        bare = λ is. let empty = kept.bare is in omega arith;
      } in
      let fits = clean selections selection_rules rows no_row f s e 32 inside
      (record { stand = record { ends = refl; reads = reads ∙ ap (λ xs. flatten selection_row s f ++ xs) (sym behind) }; keeps = kept.selections; shallow = kept.shallow }) in
      let later = clean_from e (i + 1) docs inside behind keep.1 in (
        grind (arith, placed_fine r s (is_nil (definition_rows e docs)) (length rows) at, later.0),
        grind (arith, fits, later.1),
      )

both_fine : (a b : Bool) → cond a (Some TooManyDefinitions) (cond b (Some TooManyRows) None) ≡ None → (a ≡ false) × (b ≡ false)
both_fine true b is = grind arith
both_fine false true is = grind arith
both_fine false false is = (refl, refl)

no_orphans : (ds : List DefinitionRow) (rows : List SelectionRow) → orphan_fault ds rows ≡ None → is_nil ds ≡ true → 0 ≡ length rows
no_orphans [] [] fine is = refl
no_orphans [] (r ∷ rows) fine is = grind arith
no_orphans (d ∷ ds) rows fine is = absurd (false≢true is)

-- tables without a fault are a document
pub is_document : (ds : List DefinitionRow) (rows : List SelectionRow) → document_fault ds rows ≡ None → (document : List Definition) × IsDocument ds rows document
is_document ds rows fine =
    let sizes = or_else_none (size_fault (length ds) (length rows)) (layout_fault ds rows) fine in
    let few = both_fine (ltb 256 (length ds)) (ltb 4096 (length rows)) sizes.0 in
    let parts = or_else_none (orphan_fault ds rows) _ sizes.1 in
    let both = or_else_none (definitions_fault (length rows) 0 0 ds) (rows_fault (map selection_view rows) ds) parts.1 in
    let all = reads_from rows 0 0 ds (omega arith) (no_orphans ds rows parts.0) both.0 both.1 in (
      all.document,
      record {
        heads = all.heads;
        selected = all.selected;
        keep = all.keep;
        few = ltb-false 256 (length ds) few.0;
        short = ltb-false 4096 (length rows) few.1;
      },
    )

orphans_none : (docs : List Definition) → orphan_fault (definition_rows 0 docs) (selection_rows 0 docs) ≡ None
orphans_none [] = refl
orphans_none (d ∷ docs) = refl

-- a document is without a fault
pub without_fault : (ds : List DefinitionRow) (rows : List SelectionRow) (document : List Definition) → IsDocument ds rows document → document_fault ds rows ≡ None
without_fault ds rows docs is =
    let Clean-All = clean_from rows 0 0 docs (omega arith) is.selected is.keep in
    let orphans : orphan_fault ds rows ≡ None = grind (arith, is.heads, is.selected, orphans_none docs) in
    let sizes : size_fault (length ds) (length rows) ≡ None = rw (le-ltb 256 (length ds) is.few, le-ltb 4096 (length rows) is.short) refl in
    let heads = ap (definitions_fault (length rows) 0 0) is.heads ∙ Clean-All.0 in
    let rest = ap (rows_fault (map selection_view rows)) is.heads ∙ Clean-All.1 in
    rw (sizes, orphans, heads) rest

same_forest : (s : ℕ) (f g : Forest Selection) → flatten selection_row s f ≡ flatten selection_row s g → size f ≡ size g → f ≡ g
same_forest s f g same sizes = grind (arith, read-flatten selections (size f) s f (omega arith), read-flatten selections (size f) s g (omega arith))

-- two documents with one layout are the same
unique_from : (s : ℕ) (xs ys : List Definition) → definition_rows s xs ≡ definition_rows s ys → selection_rows s xs ≡ selection_rows s ys → xs ≡ ys
unique_from s [] [] heads rows = refl
unique_from s [] (y ∷ ys) heads rows = grind arith
unique_from s (x ∷ xs) [] heads rows = grind arith
unique_from s (x ∷ xs) (y ∷ ys) heads rows =
    let first : definition_row x.head s (s + size x.selected) ≡ definition_row y.head s (s + size y.selected) = cc in
    let others : definition_rows (s + size x.selected) xs ≡ definition_rows (s + size y.selected) ys = cc in
    let head : x.head ≡ y.head = ap head_of first in
    let ends : s + size x.selected ≡ s + size y.selected = ap (λ r. r.end) first in
    let sizes : size x.selected ≡ size y.selected = omega arith in
    let long-x = length-flatten selection_row s x.selected in
    let long-y : length (flatten selection_row s y.selected) ≡ size x.selected = length-flatten selection_row s y.selected ∙ sym sizes in
    let own : flatten selection_row s x.selected ≡ flatten selection_row s y.selected =
    grind (arith, take_at _ (selection_rows (s + size x.selected) xs) (size x.selected) long-x, take_at _ (selection_rows (s + size y.selected) ys) (size x.selected) long-y) in
    let later : selection_rows (s + size x.selected) xs ≡ selection_rows (s + size y.selected) ys =
    grind (arith, drop_at _ (selection_rows (s + size x.selected) xs) (size x.selected) long-x, drop_at _ (selection_rows (s + size y.selected) ys) (size x.selected) long-y) in
    let forest = same_forest s x.selected y.selected own sizes in
    let rest = unique_from (s + size x.selected) xs ys (others ∙ ap (λ k. definition_rows k ys) (sym ends)) (later ∙ ap (λ k. selection_rows k ys) (sym ends)) in
    grind (arith, head, forest, rest)

pub only_one : (ds : List DefinitionRow) (rows : List SelectionRow) (x y : List Definition) → IsDocument ds rows x → IsDocument ds rows y → x ≡ y
only_one ds rows x y a b = unique_from 0 x y (sym a.heads ∙ b.heads) (sym a.selected ∙ b.selected)

-- the verdict on two tables says whether they are a document
pub judged : (ds : List DefinitionRow) (rows : List SelectionRow) (r : Result Unit DocumentFault) → r ≡ verdict_of (document_fault ds rows)
    → MatchResult r (λ _. ReadsAsOne ds rows) (λ _. ReadsAsNone ds rows)
judged ds rows (Ok tt) told =
    let one = is_document ds rows (verdict_ok _ (sym told)) in
    record { document = one.0; is = one.1; only = λ other is. only_one ds rows other one.0 is one.1 }
judged ds rows (Err fault) told = λ document is.
    let none : Some fault ≡ None = sym (verdict_err _ fault (sym told)) ∙ without_fault ds rows document is in
    let z : ◌≡◌ {A = ℕ} 0 1 = cc in
    omega arith

-- The sets that are read off a document stand for its forests.
use Rattle.std.proofs.Common.{◌≡◌, ℕ, zero, suc, ◌+◌, ◌<◌, ◌≤◌, List, [], ◌∷◌, ◌++◌, length, get_or, drop, Some, sym, refl, ap, ◌∙◌, subst, arith}
use Rattle.std.proofs.lemmas.List.{drop_at, drop-drop, length-append, length-drop, get_or_past}
use Rattle.std.proofs.lemmas.Bool.{cond-true, cond-false, le-leb, lt-leb, or_left, or_from}
use Rattle.layout.specs.Forest.{Forest, none, row, size, flatten}
use Rattle.layout.specs.Shapes.{Stand}
use Rattle.layout.proofs.Tables.{length-flatten, opened}
use Rattle.document.specs.declared.rows.DefinitionRow.{DefinitionRow}
use Rattle.document.specs.declared.rows.SelectionRow.{SelectionRow}
use Rattle.document.specs.declared.handed.sets.SelectionSet.{SelectionSet}
use Rattle.document.specs.Rows.{Selection, selections, selection_of, selection_row}
use Rattle.document.specs.Document.{Definition, no_definition, definition_rows, selection_rows, IsDocument}
use Rattle.document.specs.Sets.{no_row, no_definition_row, set_of, step_at, next_of, Holds, Follows}

module _ (rows : List SelectionRow) where
  -- the rest of the rows, behind those of the first definition
  behind : (s : ℕ) (d : Definition) (docs : List Definition) → drop s rows ≡ selection_rows s (d ∷ docs) → drop (s + size d.selected) rows ≡ selection_rows (s + size d.selected) docs
  behind s d docs reads =
      grind (arith, drop-drop (size d.selected) s rows, drop_at (flatten selection_row s d.selected) (selection_rows (s + size d.selected) docs) (size d.selected) (length-flatten selection_row s d.selected))

  inside : (s : ℕ) (d : Definition) (docs : List Definition) → s ≤ length rows → drop s rows ≡ selection_rows s (d ∷ docs) → s + size d.selected ≤ length rows
  inside s d docs low reads =
      grind (arith, length-flatten selection_row s d.selected, length-append (flatten selection_row s d.selected) (selection_rows (s + size d.selected) docs), length-drop s rows)

  first_holds : (s : ℕ) (d : Definition) (docs : List Definition) → s ≤ length rows → drop s rows ≡ selection_rows s (d ∷ docs) → Holds rows (set_of s (s + size d.selected)) d.selected
  first_holds s d docs low reads =
      record {
        stand = record { ends = refl; reads = reads ∙ ap (λ xs. flatten selection_row s d.selected ++ xs) (sym (behind s d docs reads)) };
        within = inside s d docs low reads;
      }

  -- each definition's set stands for its selections
  pub each_holds : (s : ℕ) (docs : List Definition) (k : ℕ) → s ≤ length rows → drop s rows ≡ selection_rows s docs → k < length (definition_rows s docs)
      → Holds rows (set_of (get_or (definition_rows s docs) k no_definition_row).first (get_or (definition_rows s docs) k no_definition_row).end) (get_or docs k no_definition).selected
  each_holds s [] k low reads few = absurd (omega arith)
  each_holds s (d ∷ docs) zero low reads few = first_holds s d docs low reads
  each_holds s (d ∷ docs) (suc k) low reads few =
      each_holds (s + size d.selected) docs k (inside s d docs low reads) (behind s d docs reads) (omega arith)

  pub rows_many : (s : ℕ) (docs : List Definition) → length (definition_rows s docs) ≡ length docs
  rows_many s [] = refl
  rows_many s (d ∷ docs) = ap suc (rows_many (s + size d.selected) docs)

  pub row_holds : (ds : List DefinitionRow) (docs : List Definition) (k : ℕ) → IsDocument ds rows docs → k < length ds
      → Holds rows (set_of (get_or ds k no_definition_row).first (get_or ds k no_definition_row).end) (get_or docs k no_definition).selected
  row_holds ds docs k is low =
      rw is.heads (each_holds 0 docs k (omega arith) is.selected (omega (arith, ap length is.heads)))

  -- past the last definition nothing stands
  pub past_holds : (ds : List DefinitionRow) (docs : List Definition) (k : ℕ) → IsDocument ds rows docs → length ds ≤ k → Holds rows (set_of 0 0) (get_or docs k no_definition).selected
  past_holds ds docs k is high =
      let many : length docs ≤ k = omega (arith, rows_many 0 docs, ap length is.heads) in
      rw (get_or_past docs k no_definition many) (record { stand = record { ends = refl; reads = refl }; within = omega arith })

  -- what is read of a set is the first row of its forest
  pub next_follows : (set : SelectionSet) (f : Forest Selection) → Holds rows set f → Follows rows set f (next_of rows set)
  next_follows set none h =
      cond-true _ _ _ (or_left _ _ (le-leb set.end set.next (omega (arith, h.stand.ends))))
  next_follows set (row s below after) h =
      let i = set.next in
      let e = set.end in
      let low : i < e = omega (arith, h.stand.ends) in
      let within = h.within in
      let o = opened selections rows i e no_row (row s below after) low (omega arith) h.stand in
      let same : row s below after ≡ row (selection_of (get_or rows i no_row)) o.below o.after = o.is in
      let lower : below ≡ o.below = cc in
      let later : after ≡ o.after = cc in
      let here : Follows rows set (row s below after) (Some (step_at (get_or rows i no_row) i e)) = (
        refl,
        cc,
        record { stand = subst (Stand selections rows (i + 1) (get_or rows i no_row).end) (sym lower) o.beneath; within = omega (arith, o.high) },
        record { stand = subst (Stand selections rows (get_or rows i no_row).end e) (sym later) o.beyond; within = within },
      ) in
      subst (Follows rows set (row s below after))
      (sym (cond-false _ _ _ (or_from _ _ (lt-leb e i low) (lt-leb (length rows) i (omega arith))))) here

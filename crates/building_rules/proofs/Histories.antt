-- Tables hold the document whose layout they are, and a history grows by the definitions of one call.
use Rattle.std.proofs.Common.{◌≡◌, ℕ, ◌+◌, List, [], ◌∷◌, ◌++◌, drop, sym, refl, ap, ◌∙◌, append_assoc, append-nil}
use Rattle.std.proofs.lemmas.List.{drop_at, drop-drop}
use Rattle.layout.specs.Forest.{size, flatten}
use Rattle.layout.specs.Shapes.{Stand}
use Rattle.layout.proofs.Tables.{length-flatten, forest_read}
use Rattle.document.specs.declared.rows.SelectionRow.{SelectionRow}
use Rattle.document.specs.Rows.{selections, selection_row}
use Rattle.document.specs.Document.{Definition, definition_rows, selection_rows}
use Rattle.building_rules.specs.Calls.{accepted_of, accepted, document_in, DocumentsAreRead, HistoriesGrow}

-- the definitions whose selections begin at s
read_from : (rows : List SelectionRow) (s : ℕ) (docs : List Definition) → drop s rows ≡ selection_rows s docs → document_in (definition_rows s docs) rows ≡ docs
read_from rows s [] reads = refl
read_from rows s (d ∷ docs) reads =
    let f = d.selected in
    let e = s + size f in
    let after = selection_rows e docs in
    let behind : drop e rows ≡ after =
    sym (drop-drop (size f) s rows) ∙ ap (drop (size f)) reads ∙ drop_at (flatten selection_row s f) after (size f) (length-flatten selection_row s f) in
    let stand : Stand selections rows s e f =
    record { ends = refl; reads = reads ∙ ap (λ xs. flatten selection_row s f ++ xs) (sym behind) } in
    let own = forest_read selections rows s e f stand in
    let rest = read_from rows e docs behind in
    ap (λ g. record { head = d.head; selected = g } ∷ document_in (definition_rows e docs) rows) own ∙ ap (λ ds. d ∷ ds) rest

pub documents_are_read : DocumentsAreRead
documents_are_read definitions rows docs is =
    ap (λ ds. document_in ds rows) is.heads ∙ read_from rows 0 docs is.selected

pub histories_grow : HistoriesGrow
histories_grow [] c = append-nil (accepted_of c)
histories_grow (b ∷ h) c = ap (λ ds. accepted_of b ++ ds) (histories_grow h c) ∙ sym (append_assoc (accepted_of b) (accepted h) (accepted_of c))

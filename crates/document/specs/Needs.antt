-- How many places building a document can need.
use Rattle.std.specs.Prelude.{ℕ, ◌+◌, ◌*◌, cond, List, [], ◌∷◌, length, count_by}
use Rattle.layout.specs.Forest.{Forest, none, row, size}
use Rattle.document.specs.declared.handed.needs.Needs.{Needs}
use Rattle.document.specs.Rows.{Selection, is_field, is_fragment, named_operation}
use Rattle.document.specs.Document.{Definition}

-- how many fields are open beneath a selection, where so many are open around it
abbrev pub way : ℕ → Selection → ℕ
way above s = above + cond (is_field s) 1 0

-- the path keys of selections around which so many fields are open: for each row one for each field on the way down to
-- it, itself counted
abbrev pub forest_keys : ℕ → Forest Selection → ℕ
forest_keys above none = 0
forest_keys above (row s below after) = way above s + (forest_keys (way above s) below + forest_keys above after)

-- all rows of a document
abbrev pub rows_in : List Definition → ℕ
rows_in [] = 0
rows_in (d ∷ ds) = size d.selected + rows_in ds

-- all path keys of a document
abbrev pub keys_in : List Definition → ℕ
keys_in [] = 0
keys_in (d ∷ ds) = forest_keys 0 d.selected + keys_in ds

-- one place for each named operation, fragment and row; errors for twice the definitions plus the rows; the path keys
abbrev pub needs_of : List Definition → Needs
needs_of document =
    record {
      operations = count_by (λ d. named_operation d.head) document;
      fragments = count_by (λ d. is_fragment d.head) document;
      rows = rows_in document;
      errors = 2 * length document + rows_in document;
      path_keys = keys_in document;
    }

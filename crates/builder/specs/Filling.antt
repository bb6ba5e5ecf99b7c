-- Tables that are filled from the front: what they hold once selections are stored and errors are listed.
use Rattle.std.specs.Prelude.{ℕ, ◌+◌, ◌≤◌, List, ◌++◌, length, take, drop}
use Rattle.layout.specs.Forest.{Forest, size, depth, flatten}
use Rattle.document.specs.declared.rows.SelectionRow.{SelectionRow}
use Rattle.document.specs.declared.handed.sets.SelectionSet.{SelectionSet}
use Rattle.document.specs.Rows.{Selection}
use Rattle.document.specs.Sets.{Holds}
use Rattle.document.specs.Needs.{forest_keys}
use Rattle.selection_rules.specs.declared.stored.StoredRow.{StoredRow}
use Rattle.selection_rules.specs.declared.error.BuildError.{BuildError}
use Rattle.selection_rules.specs.Stored.{Stored, stored_row}
use Rattle.selection_rules.specs.Errors.{Path, Error, error_rows, keys_in}
use Rattle.builder.specs.declared.path.OpenPath.{OpenPath}
use Rattle.builder.specs.declared.filled.Filled.{Filled}

-- xs with ys written over it from the place n on
abbrev pub put : {X : Type 0} → List X → ℕ → List X → List X
put xs n ys = take n xs ++ (ys ++ drop (n + length ys) xs)

-- the path that is open
abbrev pub path_of : OpenPath → Path
path_of p = record { root = p.root; keys = take p.depth p.keys }

-- a path with as many of its keys as are left
abbrev pub cut_to : ℕ → Path → Path
cut_to n p = record { root = p.root; keys = take n p.keys }

-- the tables of rows, errors and path keys, and how many places of each are filled
pub record Output : Type 0 where
  pub rows : List StoredRow
  pub errors : List BuildError
  pub path_keys : List ℕ
  pub filled : Filled

abbrev pub output : List StoredRow → List BuildError → List ℕ → Filled → Output
output rows errors path_keys filled = record { rows = rows; errors = errors; path_keys = path_keys; filled = filled }

abbrev pub filled_to : ℕ → ℕ → ℕ → Filled
filled_to rows errors path_keys = record { rows = rows; errors = errors; path_keys = path_keys }

-- the same, with the rows of a forest stored and errors listed behind what was there; all else is as it was
abbrev pub with_set : Output → Forest Stored → List Error → Output
with_set o f es =
    output (put o.rows o.filled.rows (flatten stored_row o.filled.rows f))
    (put o.errors o.filled.errors (error_rows o.filled.path_keys es))
    (put o.path_keys o.filled.path_keys (keys_in es))
    (filled_to (o.filled.rows + size f) (o.filled.errors + length es) (o.filled.path_keys + length (keys_in es)))

-- the set stands for the forest, and there is room for all that building it can store and list, where so many fields are open
pub record Room (rows : List SelectionRow) (set : SelectionSet) (above : ℕ) (o : Output) (f : Forest Selection) : Type 0 where
  pub holds : Holds rows set f
  pub shallow : above + depth f ≤ 32
  pub rows_fit : o.filled.rows + size f ≤ length o.rows
  pub rows_few : o.filled.rows + size f ≤ 16384
  pub errors_fit : o.filled.errors + size f ≤ length o.errors
  pub keys_fit : o.filled.path_keys + forest_keys above f ≤ length o.path_keys
  pub keys_few : o.filled.path_keys + forest_keys above f ≤ 131072

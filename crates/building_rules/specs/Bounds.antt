-- How many places definitions can need: never more than what is told beforehand.
use Rattle.std.specs.Prelude.{◌≡◌, ℕ, ◌+◌, ◌*◌, ◌≤◌, Bool, List, [], ◌∷◌, length, count_by}
use Rattle.layout.specs.Forest.{size}
use Rattle.document.specs.declared.handed.needs.Needs.{Needs}
use Rattle.document.specs.Rows.{is_fragment, named_operation}
use Rattle.document.specs.Document.{Definition}
use Rattle.document.specs.Needs.{forest_keys, needs_of}
use Rattle.schema.specs.Meaning.{Meaning}
use Rattle.selection_rules.specs.Errors.{Error, keys_in}
use Rattle.building_rules.specs.Definitions.{Accepted, accepted_from, Kept, State, errors_from, kept_from}

-- the selections of definitions, and the path keys that their errors can have
abbrev pub rows_of : List Accepted → ℕ
rows_of [] = 0
rows_of (d ∷ ds) = size d.selected + rows_of ds

abbrev pub path_keys_of : List Accepted → ℕ
path_keys_of [] = 0
path_keys_of (d ∷ ds) = forest_keys 0 d.selected + path_keys_of ds

-- one place for each named operation, fragment and row; errors for twice the definitions plus the rows; the path keys
abbrev pub needs_for : List Accepted → Needs
needs_for ds =
    record {
      operations = count_by (λ d. named_operation d.head) ds;
      fragments = count_by (λ d. is_fragment d.head) ds;
      rows = rows_of ds;
      errors = 2 * length ds + rows_of ds;
      path_keys = path_keys_of ds;
    }

-- the stored selections of stored definitions
abbrev pub rows_kept : List Kept → ℕ
rows_kept [] = 0
rows_kept (k ∷ ks) = size k.rows + rows_kept ks

-- errors and stored definitions fit into so many places
pub record Fits (needs : Needs) (es : List Error) (ks : List Kept) : Type 0 where
  pub operations : count_by (λ k. named_operation k.head) ks ≤ needs.operations
  pub fragments : count_by (λ k. is_fragment k.head) ks ≤ needs.fragments
  pub rows : rows_kept ks ≤ needs.rows
  pub errors : length es ≤ needs.errors
  pub path_keys : length (keys_in es) ≤ needs.path_keys

-- whatever stood before
abbrev pub BuildsFit : Type 0
BuildsFit = (m : Meaning) (s : State) (ds : List Accepted) → Fits (needs_for ds) (errors_from m s ds) (kept_from m s ds)

-- what a document needs is what its definitions need
abbrev pub NeedsOfDocuments : Type 0
NeedsOfDocuments = (strict : Bool) (document : List Definition) → needs_for (accepted_from strict document) ≡ needs_of document

-- What a builder and its tables hold, what the rules read of it, and what it comes to once definitions are taken in.
use Rattle.std.specs.Prelude.{ℕ, zero, suc, ◌+◌, Bool, List, [], ◌∷◌, length, Some, None, Option, slice_index_or, slice_set}
use Rattle.ordered_index.specs.declared.index.Entered.TheVariants.{Added}
use Rattle.ordered_index.specs.Sound.{keys_of}
use Rattle.ordered_index.specs.Keys.{same_name, name_hash}
use Rattle.ordered_index.specs.Probing.{probe_for}
use Rattle.ordered_index.specs.Entering.{slots_after}
use Rattle.schema.specs.Meaning.{Meaning}
use Rattle.selection_rules.specs.declared.stored.StoredRow.{StoredRow}
use Rattle.selection_rules.specs.declared.error.BuildError.{BuildError}
use Rattle.selection_rules.specs.Errors.{Error, error_rows, keys_in}
use Rattle.building_rules.specs.Definitions.{Accepted, Kept, Taken, State, step, kept_from, errors_from, state_after}
use Rattle.stored_tables.specs.declared.definition.StoredDefinition.{StoredDefinition}
use Rattle.building_rules.specs.Bounds.{rows_kept}
use Rattle.stored_tables.specs.Verdict.{no_stored_definition}
use Rattle.stored_tables.specs.Layout.{name_of, rows_of, operations_of, fragments_of, anonymous_of}
use Rattle.builder.specs.declared.progress.Progress.{Progress}
use Rattle.builder.specs.Filling.{put, Output, output, filled_to}

-- a table of definitions with its index, and how many of its places are filled
pub record Table : Type 0 where
  pub entries : List StoredDefinition
  pub slots : List ℕ
  pub count : ℕ

abbrev pub table : List StoredDefinition → List ℕ → ℕ → Table
table entries slots count = record { entries = entries; slots = slots; count = count }

-- the names of the definitions that are stored in a table
abbrev pub names_in : Table → List ℕ
names_in t = keys_of name_of t.count t.entries

-- the slots once a name that is not yet there has the next place: the slot at which its probe ends names that place
abbrev pub slots_with : Table → ℕ → List ℕ
slots_with t name = slots_after (probe_for same_name name_hash (names_in t) t.slots name) (Added t.count) t.slots

-- one definition more, behind the others
abbrev pub entered : Table → StoredDefinition → Table
entered t d = table (slice_set t.entries t.count d) (slots_with t d.row.name) (t.count + 1)

abbrev pub all_entered : Table → List StoredDefinition → Table
all_entered t [] = t
all_entered t (d ∷ ds) = all_entered (entered t d) ds

-- what a builder and its tables hold
pub record Held : Type 0 where
  pub operations : Table
  pub fragments : Table
  pub output : Output
  pub anonymous : Option StoredDefinition
  pub multiple : Bool

abbrev pub held : Progress → List StoredDefinition → List ℕ → List StoredDefinition → List ℕ → List StoredRow → List BuildError → List ℕ → Held
held p operations operation-slots fragments fragment-slots rows errors path_keys =
    record {
      operations = table operations operation-slots p.operations;
      fragments = table fragments fragment-slots p.fragments;
      output = output rows errors path_keys p.filled;
      anonymous = p.anonymous;
      multiple = p.multiple_anonymous;
    }

-- the names that the first n definitions of a table take, the latest first
abbrev pub taken_by : List StoredDefinition → ℕ → List Taken
taken_by entries zero = []
taken_by entries (suc n) =
    record { name = (slice_index_or entries n no_stored_definition).row.name; location = (slice_index_or entries n no_stored_definition).row.name_location } ∷ taken_by entries n

abbrev pub location_of : Option StoredDefinition → Option ℕ
location_of None = None
location_of (Some d) = Some d.row.location

abbrev pub state : Option StoredDefinition → Bool → List StoredDefinition → ℕ → List StoredDefinition → ℕ → State
state anonymous multiple operations n fragments k =
    record { anonymous = location_of anonymous; multiple = multiple; operations = taken_by operations n; fragments = taken_by fragments k }

-- what the rules read of all this
abbrev pub state_of : Held → State
state_of h =
    state h.anonymous h.multiple h.operations.entries h.operations.count h.fragments.entries h.fragments.count

-- kept definitions with their rows, and errors with their path keys, behind what was there; all else is as it was
abbrev pub filled_with : Held → List Kept → List Error → Bool → Held
filled_with h ks es multiple =
    record {
      operations = all_entered h.operations (operations_of h.output.filled.rows ks);
      fragments = all_entered h.fragments (fragments_of h.output.filled.rows ks);
      output = output
          (put h.output.rows h.output.filled.rows (rows_of h.output.filled.rows ks))
          (put h.output.errors h.output.filled.errors (error_rows h.output.filled.path_keys es))
          (put h.output.path_keys h.output.filled.path_keys (keys_in es))
          (filled_to (h.output.filled.rows + rows_kept ks) (h.output.filled.errors + length es) (h.output.filled.path_keys + length (keys_in es)));
      anonymous = anonymous_of h.anonymous h.output.filled.rows ks;
      multiple = multiple;
    }

-- what is held once one definition is taken in
abbrev pub one_in : Meaning → Held → Accepted → Held
one_in m h d = filled_with h (step m (state_of h) d).kept (step m (state_of h) d).errors (step m (state_of h) d).next.multiple

-- what is held once definitions are taken in, in their order, by the rules of building
abbrev pub taken_in : Meaning → Held → List Accepted → Held
taken_in m h ds =
    filled_with h (kept_from m (state_of h) ds) (errors_from m (state_of h) ds) (state_after m (state_of h) ds).multiple

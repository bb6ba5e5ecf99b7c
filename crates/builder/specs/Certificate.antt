-- The certificate that a builder and its tables came out of a list of calls; and what it says of them.
use Rattle.std.specs.Prelude.{◌≡◌, ℕ, ◌<◌, ◌≤◌, Bool, false, List, ◌∷◌, ◌++◌, length, take, count_by, None, Ok, Err, Option, Result}
use Rattle.std.specs.List.{AllByRecursion}
use Rattle.document.specs.declared.rows.DefinitionRow.{DefinitionRow}
use Rattle.document.specs.declared.rows.SelectionRow.{SelectionRow}
use Rattle.schema.specs.Meaning.{Meaning}
use Rattle.selection_rules.specs.declared.stored.StoredRow.{StoredRow}
use Rattle.selection_rules.specs.declared.error.SelectionPath.{SelectionPath}
use Rattle.selection_rules.specs.Errors.{Path, path_at, Error, keys_of, error_rows, keys_in}
use Rattle.building_rules.specs.Calls.{Call, accepted, kept, listed_in}
use Rattle.building_rules.specs.Storable.{Sound}
use Rattle.stored_tables.specs.declared.definition.StoredDefinition.{StoredDefinition}
use Rattle.stored_tables.specs.declared.stored.StoredDocument.{StoredDocument}
use Rattle.stored_tables.specs.declared.tables.Tables.{Tables}
use Rattle.stored_tables.specs.Layout.{rows_of, operations_of, fragments_of, anonymous_of}
use Rattle.stored_tables.specs.Verdict.{holds, all_stored}
use Rattle.builder.specs.declared.progress.Progress.{Progress}
use Rattle.builder.specs.declared.builder.ExecutableDocumentBuilder.{ExecutableDocumentBuilder}
use Rattle.builder.specs.declared.fault.BuilderFault.{BuilderFault}
use Rattle.builder.specs.declared.fault.BuilderFault.TheVariants.{Document, TableTooShort, Stored, IndexUnfit, NoRoom}
use Rattle.builder.specs.Filling.{filled_to}
use Rattle.builder.specs.Holding.{Held, taken_in}
use Rattle.builder.specs.Storing.{Indexed}
use Rattle.builder.specs.Adding.{held_in}

-- nothing is stored and nothing is listed
pub record IsFresh (h : Held) : Type 0 where
  pub operations : h.operations.count ≡ 0
  pub fragments : h.fragments.count ≡ 0
  pub filled : h.output.filled ≡ filled_to 0 0 0
  pub anonymous : h.anonymous ≡ None
  pub multiple : h.multiple ≡ false

-- what is stored and listed keeps the limits, and the tables are as long
pub record Within (h : Held) : Type 0 where
  pub operations_fit : h.operations.count ≤ length h.operations.entries
  pub operations_few : h.operations.count ≤ 256
  pub fragments_fit : h.fragments.count ≤ length h.fragments.entries
  pub fragments_few : h.fragments.count ≤ 256
  pub rows_fit : h.output.filled.rows ≤ length h.output.rows
  pub rows_few : h.output.filled.rows ≤ 16384
  pub errors_fit : h.output.filled.errors ≤ length h.output.errors
  pub errors_few : h.output.filled.errors ≤ 16384
  pub keys_fit : h.output.filled.path_keys ≤ length h.output.path_keys
  pub keys_few : h.output.filled.path_keys ≤ 131072

-- over a schema that means m, the builder and its tables came out of these calls: a fresh builder to which the accepted
-- definitions were added
pub record Stands {S : Type 0} (meaning : S → Meaning) (m : Meaning) (calls : List Call) (b : ExecutableDocumentBuilder S) (t : Tables) : Type 0 where
  pub schema : meaning b.schema.now ≡ m
  pub start : Held
  pub fresh : IsFresh start
  pub holds : held_in b.progress t ≡ taken_in m start (accepted calls)
  pub sound : AllByRecursion Sound (accepted calls)
  pub within : Within (held_in b.progress t)
  pub operations : Indexed (held_in b.progress t).operations
  pub fragments : Indexed (held_in b.progress t).fragments

-- what the tables hold is what is kept of the calls, and what is listed of them
pub record Reads (m : Meaning) (calls : List Call) (p : Progress) (t : Tables) : Type 0 where
  pub anonymous : p.anonymous ≡ anonymous_of None 0 (kept m calls)
  pub operations : take p.operations t.operations.now ≡ operations_of 0 (kept m calls)
  pub fragments : take p.fragments t.fragments.now ≡ fragments_of 0 (kept m calls)
  pub rows : take p.filled.rows t.rows.now ≡ rows_of 0 (kept m calls)
  pub errors : take p.filled.errors t.errors.now ≡ error_rows 0 (listed_in m calls)
  pub path_keys : take p.filled.path_keys t.path_keys.now ≡ keys_in (listed_in m calls)

-- each stored row is in exactly one stored range
abbrev pub EachInOneRange : Option StoredDefinition → List StoredDefinition → List StoredDefinition → List StoredRow → Type 0
EachInOneRange anonymous operations fragments rows =
    (row : ℕ) → row < length rows → count_by (holds row) (all_stored anonymous operations fragments) ≡ 1

-- what is read of a builder after these calls is what is kept of them
pub record IsKept (m : Meaning) (calls : List Call) (s : StoredDocument) : Type 0 where
  pub anonymous : s.anonymous ≡ anonymous_of None 0 (kept m calls)
  pub operations : s.operations.now ≡ operations_of 0 (kept m calls)
  pub fragments : s.fragments.now ≡ fragments_of 0 (kept m calls)
  pub rows : s.rows.now ≡ rows_of 0 (kept m calls)
  pub ranges : EachInOneRange s.anonymous s.operations.now s.fragments.now s.rows.now

-- the call that hands in these tables
abbrev pub called : List DefinitionRow → List SelectionRow → Bool → Bool → Call
called definitions rows strict refused = record { definitions = definitions; rows = rows; strict = strict; refused = refused }

-- tables and indexes that are a builder's own are never at fault
abbrev pub NeverStale : Result Unit BuilderFault → Type 0
NeverStale (Ok x) = Unit {0}
NeverStale (Err (Document f)) = Unit {0}
NeverStale (Err TableTooShort) = ⊥
NeverStale (Err (Stored f)) = ⊥
NeverStale (Err IndexUnfit) = ⊥
NeverStale (Err NoRoom) = Unit {0}

-- the keys of an error's path are those that are read for it
abbrev pub ReadsPath : Meaning → List Call → SelectionPath → List ℕ → Type 0
ReadsPath m calls path keys =
    (before after : List Error) (e : Error) (p : Path) → listed_in m calls ≡ before ++ e ∷ after → keys_of e ≡ p.keys
    → path ≡ path_at (length (keys_in before)) p → keys ≡ p.keys

-- Walking over the fields of an operation: which refusal comes, and what is counted and listed.
use Rattle.std.specs.Prelude.{Bool, ◌≡◌, ℕ, suc, ◌<◌, true, false, ◌↔◌, List, length, Some, Ok, Err, Result, slice_index}
use Rattle.building_rules.specs.Definitions.{Kept}
use Rattle.building_rules.specs.Rules.{anonymous_role, named_role}
use Rattle.building_rules.specs.Bounds.{rows_kept}
use Rattle.stored_tables.specs.declared.definition.StoredDefinition.{StoredDefinition}
use Rattle.stored_tables.specs.declared.stored.StoredDocument.{StoredDocument}
use Rattle.stored_tables.specs.declared.tables.Tables.{Tables}
use Rattle.stored_tables.specs.Layout.{fragments_of}
use Rattle.finished_rules.specs.Numbers.{has_role, numbers}
use Rattle.finished_rules.specs.Reaches.{Reaches}
use Rattle.finished_rules.specs.Tables.{HoldsKept}
use Rattle.finished_tables.specs.declared.indexed.IndexedDocument.{IndexedDocument}
use Rattle.walking.specs.declared.fault.WalkFault.{WalkFault}
use Rattle.walking.specs.declared.fault.WalkFault.TheVariants as walk
use Rattle.walking.specs.declared.judge.Lengths.{Lengths}
use Rattle.walking.specs.Refusals.{short_for, operation_at, Refused}
use Rattle.walking.specs.Listed.{Among, Distinct, Lists}
use Rattle.walking.specs.Answers.{FieldsOf, IntrospectionOf}
use Rattle.builder.specs.declared.executable.ExecutableDocument.{ExecutableDocument}
use Rattle.builder.specs.Finished.{finished_short, ReadFrom}
use Rattle.executable.specs.declared.fault.ExecutableFault.{ExecutableFault}
use Rattle.executable.specs.declared.fault.ExecutableFault.TheVariants as fault

abbrev pub walk_fault : WalkFault → ExecutableFault
walk_fault walk.TooShort = fault.WalkTooShort
walk_fault (walk.Stored f) = fault.Stored f
walk_fault walk.IndexUnfit = fault.IndexUnfit
walk_fault walk.NoOperation = fault.NoOperation

-- tables that are too short are refused first; else what is read of them is walked
pub data FieldsAnswer {S : Type 0} (d : ExecutableDocument S) (t : Tables) (operation : ℕ) (lent : Lengths) (written : List ℕ → Type 0) : Result ℕ ExecutableFault → Type 0 where
  short : finished_short d t ≡ true → FieldsAnswer d t operation lent written (Err fault.TableTooShort)
  refused : (x : IndexedDocument) (f : WalkFault) → ReadFrom d t x → Refused x operation lent f → FieldsAnswer d t operation lent written (Err (walk_fault f))
  listed : (x : IndexedDocument) (n : ℕ) → ReadFrom d t x → FieldsOf x operation lent written n → FieldsAnswer d t operation lent written (Ok n)

-- the operation at a place, among those that are kept, has this number among all kept definitions: at 0 the anonymous one, at
-- n the nth named one
pub data IsNumbered (ks : List Kept) : ℕ → ℕ → Type 0 where
  anonymous : (n : ℕ) → n < length ks → has_role anonymous_role ks n ≡ true → IsNumbered ks 0 n
  named : (i : ℕ) → i < length (numbers named_role ks) → IsNumbered ks (suc i) (slice_index (numbers named_role ks) i)

-- the places in the order of the walk: as it lists them in tables that hold what is kept, whatever else these are; there is one
-- such list
pub record InOrder (ks : List Kept) (operation : ℕ) (places : List ℕ) : Type 0 where
  pub tables : StoredDocument
  pub holds : HoldsKept ks tables
  pub definition : StoredDefinition
  pub there : operation_at tables operation ≡ Some definition
  pub lists : Lists tables definition places

-- the places that are listed are those of exactly the kept fields that the operation reaches, each once, and they are counted
pub record Reached (ks : List Kept) (operation : ℕ) (written : List ℕ → Type 0) (n : ℕ) : Type 0 where
  pub number : ℕ
  pub numbered : IsNumbered ks operation number
  pub places : List ℕ
  pub counted : n ≡ length places
  pub listed : written places
  pub once : Distinct places
  pub exactly : (p : ℕ) → Among p places ↔ Reaches ks number p
  pub ordered : InOrder ks operation places

-- whether what is lent is too short for a walk over what is kept
abbrev pub short_for_kept : List Kept → Lengths → Bool
short_for_kept ks lent = short_for (length (fragments_of 0 ks)) (rows_kept ks) lent

-- why a walk over what is kept is refused: what is lent is too short; or else no operation is kept at the place
abbrev pub KeptRefused : List Kept → ℕ → Lengths → ExecutableFault → Type 0
KeptRefused ks operation lent fault.TableTooShort = ⊥
KeptRefused ks operation lent fault.WalkTooShort = short_for_kept ks lent ≡ true
KeptRefused ks operation lent (fault.Stored f) = ⊥
KeptRefused ks operation lent fault.IndexUnfit = ⊥
KeptRefused ks operation lent fault.NoOperation = (short_for_kept ks lent ≡ false) × ((number : ℕ) → IsNumbered ks operation number → ⊥)

-- the fields are listed that the operation reaches; a walk from a kept operation is refused exactly where what is lent is too
-- short
abbrev pub ListsReached : List Kept → ℕ → Lengths → (List ℕ → Type 0) → Result ℕ ExecutableFault → Type 0
ListsReached ks operation lent written (Ok n) = (short_for_kept ks lent ≡ false) × Reached ks operation written n
ListsReached ks operation lent written (Err f) = KeptRefused ks operation lent f

-- the same of a walk that tells whether the operation is introspection only
pub data IntrospectionAnswer {S : Type 0} (d : ExecutableDocument S) (t : Tables) (operation : ℕ) (lent : Lengths) : Result Bool ExecutableFault → Type 0 where
  short : finished_short d t ≡ true → IntrospectionAnswer d t operation lent (Err fault.TableTooShort)
  refused : (x : IndexedDocument) (f : WalkFault) → ReadFrom d t x → Refused x operation lent f → IntrospectionAnswer d t operation lent (Err (walk_fault f))
  told : (x : IndexedDocument) (r : Bool) → ReadFrom d t x → IntrospectionOf x operation lent r → IntrospectionAnswer d t operation lent (Ok r)

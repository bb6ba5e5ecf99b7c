-- Comparing two finished documents: which refusal comes, and the answer.
use Rattle.std.specs.Prelude.{◌≡◌, Bool, true, ◌||◌, Decides, Ok, Err, Result, List}
use Rattle.building_rules.specs.Definitions.{Kept}
use Rattle.stored_tables.specs.declared.tables.Tables.{Tables}
use Rattle.finished_rules.specs.Same.{EachIsSame}
use Rattle.finished_tables.specs.declared.indexed.IndexedDocument.{IndexedDocument}
use Rattle.comparison.specs.declared.fault.CompareFault.{CompareFault}
use Rattle.comparison.specs.declared.fault.CompareFault.TheVariants.{First, Second, IndexUnfit}
use Rattle.comparison.specs.Comparing.{Compares}
use Rattle.builder.specs.declared.executable.ExecutableDocument.{ExecutableDocument}
use Rattle.builder.specs.Finished.{finished_short, ReadFrom}
use Rattle.executable.specs.declared.fault.ExecutableFault.{ExecutableFault}
use Rattle.executable.specs.declared.fault.ExecutableFault.TheVariants as fault

-- whichever document is at fault
abbrev pub compare_fault : CompareFault → ExecutableFault
compare_fault (First f) = fault.Stored f
compare_fault (Second f) = fault.Stored f
compare_fault IndexUnfit = fault.IndexUnfit

abbrev pub told : Result Bool CompareFault → Result Bool ExecutableFault
told (Ok same) = Ok same
told (Err f) = Err (compare_fault f)

-- tables that are too short are refused first; else what is read of the tables is compared
pub data Answers {S T : Type 0} (a : ExecutableDocument S) (s : Tables) (b : ExecutableDocument T) (t : Tables) : Result Bool ExecutableFault → Type 0 where
  short : (finished_short a s || finished_short b t) ≡ true → Answers a s b t (Err fault.TableTooShort)
  read : (x y : IndexedDocument) (r : Result Bool CompareFault) → ReadFrom a s x → ReadFrom b t y → Compares x y r → Answers a s b t (told r)

-- the answer is no refusal, and tells whether each definition that is kept by either is the same as one kept by the other
abbrev pub SaysSame : List Kept → List Kept → Result Bool ExecutableFault → Type 0
SaysSame ks js (Ok same) = Decides same (EachIsSame ks js)
SaysSame ks js (Err f) = ⊥

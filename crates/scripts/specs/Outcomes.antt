-- What scripts come to, with no builder and no certificate in sight: whether errors are listed, whether two build the same, and
-- which fields an operation reaches.
use Rattle.std.specs.Prelude.{◌≡◌, ℕ, ◌+◌, min, Bool, true, false, ◌||◌, ◌↔◌, List, [], ◌++◌, length, drop, replicate, Decides, Some, None, Option, Ok, Err, Result}
use Rattle.schema.specs.Meaning.{Meaning, Closed}
use Rattle.building_rules.specs.Calls.{accepted, kept, listed_in}
use Rattle.building_rules.specs.Rules.{Valid}
use Rattle.stored_tables.specs.declared.tables.Tables.{Tables}
use Rattle.stored_tables.specs.Layout.{fragments_of}
use Rattle.finished_rules.specs.Same.{EachIsSame}
use Rattle.walking.specs.declared.turn.WalkStep.{WalkStep}
use Rattle.walking.specs.Lent.{WorkedWithin}
use Rattle.walking.specs.Refusals.{short_for}
use Rattle.walking.specs.Answers.{lengths}
use Rattle.builder.specs.declared.progress.Progress.{Progress}
use Rattle.builder.specs.declared.fault.BuilderFault.{BuilderFault}
use Rattle.builder.specs.declared.fault.BuilderFault.TheVariants.{IndexUnfit}
use Rattle.builder.specs.Beginning.{slots_short}
use Rattle.builder.specs.Lent.{Untouched}
use Rattle.executable.specs.declared.fault.ExecutableFault.TheVariants.{WalkTooShort}
use Rattle.executable.specs.Walking.{IsNumbered, Reached}
use Rattle.scripts.specs.declared.script.Adding.{Adding}
use Rattle.scripts.specs.declared.script.ScriptFault.{ScriptFault}
use Rattle.scripts.specs.declared.script.ScriptFault.TheVariants.{NoBuilder, Finished}
use Rattle.scripts.specs.Script.{calls_of}
use Rattle.scripts.specs.Running.{Left, NotRun}

-- the script was run, and its answers and tables are as that leaves them
abbrev pub WasRun : Meaning → Tables → Tables → List Adding → List Adding → Type 0
WasRun m t t' s s' = (p : Progress) × Left m p t t' s s'

-- Errors are listed exactly when the calls list some. Where the schema knows each type that it answers with, none is listed
-- exactly when the accepted definitions keep the eight rules. It is refused where the script cannot be run.
abbrev pub TellsErrors : Meaning → Tables → Tables → List Adding → List Adding → Result Bool BuilderFault → Type 0
TellsErrors m t t' s s' (Ok errors) =
    WasRun m t t' s s'
    × ((errors ≡ false) ↔ (listed_in m (calls_of m t s) ≡ []))
    × (Closed m → (errors ≡ false) ↔ Valid m (accepted (calls_of m t s)))
TellsErrors m t t' s s' (Err f) = NotRun t t' s s' f

-- both scripts are run, and the two documents are the same exactly when each definition kept by either is the same as one kept
-- by the other
pub record BothRun (m : Meaning) (t t' : Tables) (s s' : List Adding) (u u' : Tables) (o o' : List Adding) (same : Bool) : Type 0 where
  pub one : WasRun m t t' s s'
  pub two : WasRun m u u' o o'
  pub decides : Decides same (EachIsSame (kept m (calls_of m t s)) (kept m (calls_of m u o)))

-- an index of either is too short, and nothing is changed
pub record NeitherRun (t t' : Tables) (s s' : List Adding) (u u' : Tables) (o o' : List Adding) (f : ScriptFault) : Type 0 where
  pub short : (slots_short t || slots_short u) ≡ true
  pub told : f ≡ NoBuilder IndexUnfit
  pub script : s' ≡ s
  pub tables : Untouched t t'
  pub other_script : o' ≡ o
  pub other_tables : Untouched u u'

abbrev pub TellsSame : Meaning → Tables → Tables → List Adding → List Adding → Tables → Tables → List Adding → List Adding → Result Bool ScriptFault → Type 0
TellsSame m t t' s s' u u' o o' (Ok same) = BothRun m t t' s s' u u' o o' same
TellsSame m t t' s s' u u' o o' (Err f) = NeitherRun t t' s s' u u' o o' f

-- what a walk is lent, with its contents
pub record Room : Type 0 where
  pub stack : List WalkStep
  pub marks : List ℕ
  pub list : List ℕ

abbrev pub room : List WalkStep → List ℕ → List ℕ → Room
room stack marks list = record { stack = stack; marks = marks; list = list }

-- whether a stack, marks and a list are shorter than a walk over a document in these tables can need
abbrev pub walk_short : Tables → ℕ → ℕ → ℕ → Bool
walk_short t stack marks list = short_for (min (length t.fragments.now) 256) (min (length t.rows.now) 16384) (lengths stack marks (Some list))

abbrev pub room_short : Tables → Room → Bool
room_short t r = walk_short t (length r.stack) (length r.marks) (length r.list)

-- how many fragments are kept
abbrev pub fragments_kept : Meaning → Tables → List Adding → ℕ
fragments_kept m t s = length (fragments_of 0 (kept m (calls_of m t s)))

-- the operation is kept: the places that are listed are those of exactly the kept fields that it reaches, each once, and they
-- are counted; the marks of the kept fragments are clear, and further marks and places of the stack are as they were
pub record Walked (m : Meaning) (t t' : Tables) (s s' : List Adding) (operation : ℕ) (r r' : Room) (n : ℕ) : Type 0 where
  pub run : WasRun m t t' s s'
  pub fields : Reached (kept m (calls_of m t s)) operation (λ places. r'.list ≡ places ++ drop (length places) r.list) n
  pub clear : r'.marks ≡ replicate (fragments_kept m t s) 0 ++ drop (fragments_kept m t s) r.marks
  pub further : WorkedWithin (fragments_kept m t s + 1) r.stack r'.stack

-- a walk; or that no such operation is kept; or why the script is not run: first that too little is lent to the walk
abbrev pub TellsFields : Meaning → Tables → Tables → List Adding → List Adding → ℕ → Room → Room → Result (Option ℕ) ScriptFault → Type 0
TellsFields m t t' s s' operation r r' (Ok (Some n)) = (room_short t r ≡ false) × Walked m t t' s s' operation r r' n
TellsFields m t t' s s' operation r r' (Ok None) =
    (room_short t r ≡ false) × WasRun m t t' s s' × ((number : ℕ) → IsNumbered (kept m (calls_of m t s)) operation number → ⊥) × (r' ≡ r)
TellsFields m t t' s s' operation r r' (Err (Finished f)) =
    (room_short t r ≡ true) × (f ≡ WalkTooShort) × (s' ≡ s) × Untouched t t' × (r' ≡ r)
TellsFields m t t' s s' operation r r' (Err (NoBuilder f)) = (room_short t r ≡ false) × NotRun t t' s s' f × (r' ≡ r)

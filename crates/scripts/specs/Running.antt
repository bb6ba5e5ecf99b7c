-- What running a script answers, and what the builder, its tables and the script hold then.
use Rattle.std.specs.Prelude.{◌≡◌, cond, true, false, List, [], ◌∷◌, replicate, Ok, Err, Result}
use Rattle.schema.specs.Meaning.{Meaning}
use Rattle.building_rules.specs.Definitions.{accepted_from}
use Rattle.building_rules.specs.Calls.{Call, document_in}
use Rattle.stored_tables.specs.declared.tables.Tables.{Tables}
use Rattle.builder.specs.declared.builder.ExecutableDocumentBuilder.{ExecutableDocumentBuilder}
use Rattle.builder.specs.declared.progress.Progress.{Progress}
use Rattle.builder.specs.declared.fault.BuilderFault.{BuilderFault}
use Rattle.builder.specs.declared.fault.BuilderFault.TheVariants.{IndexUnfit}
use Rattle.builder.specs.Beginning.{no_progress, slots_short}
use Rattle.builder.specs.Holding.{Held, held, taken_in}
use Rattle.builder.specs.Adding.{held_in}
use Rattle.builder.specs.Certificate.{Stands}
use Rattle.builder.specs.Lent.{Untouched, SameFurtherSlots}
use Rattle.scripts.specs.declared.script.Adding.{Adding}
use Rattle.scripts.specs.Script.{lengths_of, answered_from, calls_of}

-- what a fresh builder and these tables hold: nothing is stored, and both indexes are empty
abbrev pub begun : Tables → Held
begun t = held no_progress t.operations.now (replicate 512 0) t.fragments.now (replicate 512 0) t.rows.now t.errors.now t.path_keys.now

-- what is held once the documents of the calls that were not refused are taken in
abbrev pub held_after : Meaning → Held → List Call → Held
held_after m h [] = h
held_after m h (c ∷ calls) =
    held_after m (cond c.refused h (taken_in m h (accepted_from c.strict (document_in c.definitions c.rows)))) calls

-- the script was run: each answer is the one that the rules give at that point, the tables hold what is taken in, and slots
-- behind the first 512 are as they were
pub record Left (m : Meaning) (p : Progress) (before after : Tables) (old new : List Adding) : Type 0 where
  pub long : slots_short before ≡ false
  pub answers : new ≡ answered_from (lengths_of before) m [] old
  pub holds : held_in p after ≡ held_after m (begun before) (calls_of m before old)
  pub further : SameFurtherSlots before after

-- an index is too short, and nothing is changed
pub record NotRun (before after : Tables) (old new : List Adding) (f : BuilderFault) : Type 0 where
  pub short : slots_short before ≡ true
  pub told : f ≡ IndexUnfit
  pub script : new ≡ old
  pub tables : Untouched before after

-- the script is run, and builder and tables came out of its calls, exactly where the indexes are long enough
abbrev pub Runs : {S : Type 0} → (S → Meaning) → Meaning → Tables → Tables → List Adding → List Adding → Result (ExecutableDocumentBuilder S) BuilderFault → Type 0
Runs meaning m before after old new (Ok b) = Left m b.progress before after old new × Stands meaning m (calls_of m before old) b after
Runs meaning m before after old new (Err f) = NotRun before after old new f

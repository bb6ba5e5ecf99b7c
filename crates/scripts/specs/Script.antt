-- What a script comes to, said of its documents and the schema's answers alone: the answer to each call, and the calls with
-- their answers.
use Rattle.std.specs.Prelude.{ℕ, Bool, cond, ◌||◌, List, [], ◌∷◌, ◌++◌, length, is_some, Some, None, Option, option_map}
use Rattle.refusal.specs.Firsts.{or_else}
use Rattle.document.specs.declared.handed.needs.Needs.{Needs}
use Rattle.document.specs.Needs.{needs_of}
use Rattle.document.specs.Verdict.{document_fault}
use Rattle.schema.specs.Meaning.{Meaning}
use Rattle.selection_rules.specs.Errors.{keys_in}
use Rattle.building_rules.specs.Calls.{Call, document_in, kept, listed_in}
use Rattle.building_rules.specs.Bounds.{rows_kept}
use Rattle.stored_tables.specs.declared.tables.Tables.{Tables}
use Rattle.stored_tables.specs.Layout.{operations_of, fragments_of}
use Rattle.builder.specs.declared.fault.BuilderFault.{BuilderFault}
use Rattle.builder.specs.declared.fault.BuilderFault.TheVariants.{Document, NoRoom}
use Rattle.builder.specs.Adding.{passes}
use Rattle.builder.specs.Certificate.{called}
use Rattle.scripts.specs.declared.script.Adding.{Adding}

-- how long the lent tables are
pub record Lengths : Type 0 where
  pub operations : ℕ
  pub fragments : ℕ
  pub rows : ℕ
  pub errors : ℕ
  pub path_keys : ℕ

abbrev pub lengths_of : Tables → Lengths
lengths_of t =
    record {
      operations = length t.operations.now;
      fragments = length t.fragments.now;
      rows = length t.rows.now;
      errors = length t.errors.now;
      path_keys = length t.path_keys.now;
    }

-- whether what is kept and listed of the calls, and what is needed, pass a limit or a table
abbrev pub no_room : Lengths → Meaning → List Call → Needs → Bool
no_room l m calls n =
    passes (length (operations_of 0 (kept m calls))) n.operations l.operations 256
    || (passes (length (fragments_of 0 (kept m calls))) n.fragments l.fragments 256
    || (passes (rows_kept (kept m calls)) n.rows l.rows 16384
    || (passes (length (listed_in m calls)) n.errors l.errors 16384
    || passes (length (keys_in (listed_in m calls))) n.path_keys l.path_keys 131072)))

-- the answer to a document after these calls: it is no document, or there is no room; else it is added
abbrev pub answer_to : Lengths → Meaning → List Call → Adding → Option BuilderFault
answer_to l m calls a =
    or_else (option_map Document (document_fault a.document.definitions.now a.document.rows.now))
    (cond (no_room l m calls (needs_of (document_in a.document.definitions.now a.document.rows.now))) (Some NoRoom) None)

-- the call with its answer
abbrev pub call_of : Adding → Option BuilderFault → Call
call_of a answer = called a.document.definitions.now a.document.rows.now a.strict (is_some answer)

-- the script with its answers, after these calls; and the calls then
abbrev pub answered_from : Lengths → Meaning → List Call → List Adding → List Adding
answered_from l m calls [] = []
answered_from l m calls (a ∷ script) =
    record a { answer = answer_to l m calls a } ∷ answered_from l m (calls ++ call_of a (answer_to l m calls a) ∷ []) script

abbrev pub calls_from : Lengths → Meaning → List Call → List Adding → List Call
calls_from l m calls [] = calls
calls_from l m calls (a ∷ script) = calls_from l m (calls ++ call_of a (answer_to l m calls a) ∷ []) script

-- the calls of a script on a fresh builder, with their answers
abbrev pub calls_of : Meaning → Tables → List Adding → List Call
calls_of m t script = calls_from (lengths_of t) m [] script

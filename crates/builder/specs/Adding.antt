-- Adding a document: which refusal comes first, and what the builder and its tables hold then.
use Rattle.std.specs.Prelude.{◌≡◌, ℕ, ◌+◌, ◌≤◌, min, Bool, true, false, cond, ◌||◌, List, map, length, take, Some, None, Ok, Err, Option, Result, nat_lt, option_map}
use Rattle.refusal.specs.Firsts.{or_else}
use Rattle.ordered_index.specs.Keys.{same_name, name_hash}
use Rattle.ordered_index.specs.Sound.{Sound}
use Rattle.document.specs.declared.rows.DefinitionRow.{DefinitionRow}
use Rattle.document.specs.declared.rows.SelectionRow.{SelectionRow}
use Rattle.document.specs.declared.handed.needs.Needs.{Needs}
use Rattle.document.specs.Needs.{needs_of}
use Rattle.document.specs.Verdict.{size_fault, layout_fault}
use Rattle.schema.specs.Meaning.{Meaning}
use Rattle.building_rules.specs.Definitions.{accepted_from}
use Rattle.building_rules.specs.Calls.{document_in}
use Rattle.stored_tables.specs.declared.tables.Tables.{Tables}
use Rattle.stored_tables.specs.declared.fault.StoredFault.{StoredFault}
use Rattle.stored_tables.specs.Layout.{name_of}
use Rattle.stored_tables.specs.Verdict.{stored_fault}
use Rattle.builder.specs.declared.progress.Progress.{Progress}
use Rattle.builder.specs.declared.fault.BuilderFault.{BuilderFault}
use Rattle.builder.specs.declared.fault.BuilderFault.TheVariants.{Document, TableTooShort, Stored, IndexUnfit, NoRoom}
use Rattle.builder.specs.Holding.{Held, held, taken_in}

-- what a builder and the tables that are lent to it hold; of each index the first 512 slots
abbrev pub held_in : Progress → Tables → Held
held_in p t =
    held p t.operations.now (take 512 t.operation_slots.now) t.fragments.now (take 512 t.fragment_slots.now) t.rows.now t.errors.now t.path_keys.now

-- whether a table is shorter than what is stored in it
abbrev pub too_short : Progress → Tables → Bool
too_short p t =
    nat_lt (length t.operations.now) p.operations
    || (nat_lt (length t.fragments.now) p.fragments
    || (nat_lt (length t.rows.now) p.filled.rows
    || (nat_lt (length t.errors.now) p.filled.errors
    || nat_lt (length t.path_keys.now) p.filled.path_keys)))

-- the first fault of the stored definitions and rows
abbrev pub stored_fault_in : Progress → Tables → Option StoredFault
stored_fault_in p t =
    stored_fault p.anonymous (take p.operations t.operations.now) (take p.fragments t.fragments.now) (take p.filled.rows t.rows.now)

-- both indexes are long enough, and their first 512 slots are those of the stored names
pub record IsIndexed (p : Progress) (t : Tables) : Type 0 where
  pub operations_long : 512 ≤ length t.operation_slots.now
  pub operations : Sound same_name name_hash (map name_of (take p.operations t.operations.now)) (take 512 t.operation_slots.now)
  pub fragments_long : 512 ≤ length t.fragment_slots.now
  pub fragments : Sound same_name name_hash (map name_of (take p.fragments t.fragments.now)) (take 512 t.fragment_slots.now)

-- whether what is filled and what is needed pass the length of a table or a limit
abbrev pub passes : ℕ → ℕ → ℕ → ℕ → Bool
passes filled needed long limit = nat_lt (min long limit) (filled + needed)

abbrev pub crowded : Progress → Tables → Needs → Bool
crowded p t n =
    passes p.operations n.operations (length t.operations.now) 256
    || (passes p.fragments n.fragments (length t.fragments.now) 256
    || (passes p.filled.rows n.rows (length t.rows.now) 16384
    || (passes p.filled.errors n.errors (length t.errors.now) 16384
    || passes p.filled.path_keys n.path_keys (length t.path_keys.now) 131072)))

-- the first fault of the sizes and the rows: how much is handed over; how long the tables are; what is stored; what is
-- handed over
abbrev pub rows_fault_in : Progress → Tables → List DefinitionRow → List SelectionRow → Option BuilderFault
rows_fault_in p t definitions rows =
    or_else (option_map Document (size_fault (length definitions) (length rows)))
    (or_else (cond (too_short p t) (Some TableTooShort) None)
    (or_else (option_map Stored (stored_fault_in p t))
    (option_map Document (layout_fault definitions rows))))

-- the answer to a document: the first fault of sizes and rows; else whether the indexes fit; else whether there is room
pub data Answers (p : Progress) (t : Tables) (definitions : List DefinitionRow) (rows : List SelectionRow) : Result Unit BuilderFault → Type 0 where
  faulty : (f : BuilderFault) → rows_fault_in p t definitions rows ≡ Some f → Answers p t definitions rows (Err f)
  unfit : rows_fault_in p t definitions rows ≡ None → (IsIndexed p t → ⊥) → Answers p t definitions rows (Err IndexUnfit)
  full : rows_fault_in p t definitions rows ≡ None → IsIndexed p t → crowded p t (needs_of (document_in definitions rows)) ≡ true
      → Answers p t definitions rows (Err NoRoom)
  added : rows_fault_in p t definitions rows ≡ None → IsIndexed p t → crowded p t (needs_of (document_in definitions rows)) ≡ false
      → Answers p t definitions rows (Ok tt)

-- what is held after a call: the definitions of a document that is added are taken in, and a refusal changes nothing
abbrev pub after_adding : Meaning → Held → List DefinitionRow → List SelectionRow → Bool → Result Unit BuilderFault → Held
after_adding m h definitions rows strict (Ok x) = taken_in m h (accepted_from strict (document_in definitions rows))
after_adding m h definitions rows strict (Err f) = h

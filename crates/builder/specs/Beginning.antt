-- Making a builder: it has stored nothing, and both indexes are empty.
use Rattle.std.specs.Prelude.{◌≡◌, Bool, true, false, ◌||◌, ◌++◌, length, drop, replicate, None, Ok, Err, Result, nat_lt}
use Rattle.stored_tables.specs.declared.tables.Tables.{Tables}
use Rattle.builder.specs.declared.progress.Progress.{Progress}
use Rattle.builder.specs.declared.builder.ExecutableDocumentBuilder.{ExecutableDocumentBuilder}
use Rattle.builder.specs.declared.fault.BuilderFault.{BuilderFault}
use Rattle.builder.specs.declared.fault.BuilderFault.TheVariants.{IndexUnfit}
use Rattle.builder.specs.Filling.{filled_to}
use Rattle.builder.specs.Lent.{Untouched}

abbrev pub no_progress : Progress
no_progress = record { operations = 0; fragments = 0; filled = filled_to 0 0 0; anonymous = None; multiple_anonymous = false }

-- whether an index has fewer than 512 slots
abbrev pub slots_short : Tables → Bool
slots_short t = nat_lt (length t.operation_slots.now) 512 || nat_lt (length t.fragment_slots.now) 512

-- the first 512 slots of each index are empty, and all else is as it was
pub record Emptied (before after : Tables) : Type 0 where
  pub operation_slots : after.operation_slots.now ≡ replicate 512 0 ++ drop 512 before.operation_slots.now
  pub fragment_slots : after.fragment_slots.now ≡ replicate 512 0 ++ drop 512 before.fragment_slots.now
  pub operations : after.operations.now ≡ before.operations.now
  pub fragments : after.fragments.now ≡ before.fragments.now
  pub rows : after.rows.now ≡ before.rows.now
  pub errors : after.errors.now ≡ before.errors.now
  pub path_keys : after.path_keys.now ≡ before.path_keys.now

-- a builder that has stored nothing, exactly where the indexes are long enough; else nothing is changed
abbrev pub Begins : {S : Type 0} → Tables → Tables → Result (ExecutableDocumentBuilder S) BuilderFault → Type 0
Begins before after (Ok b) = (slots_short before ≡ false) × (b.progress ≡ no_progress) × Emptied before after
Begins before after (Err f) = (slots_short before ≡ true) × (f ≡ IndexUnfit) × Untouched before after

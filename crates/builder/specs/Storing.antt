-- Storing one definition: where it goes, and what that asks of the tables.
use Rattle.std.specs.Prelude.{◌≡◌, ℕ, ◌<◌, ◌≤◌, length, Some, None}
use Rattle.ordered_index.specs.Keys.{same_name, name_hash}
use Rattle.ordered_index.specs.Sound.{Sound}
use Rattle.building_rules.specs.Definitions.{Role, anonymous_operation, named_operation, fragment, type_system, taken_at}
use Rattle.stored_tables.specs.declared.definition.StoredDefinition.{StoredDefinition}
use Rattle.builder.specs.Holding.{Table, Held, entered, names_in, taken_by}

-- the anonymous operation stands beside the tables, every other definition in its table
abbrev pub store_as : Role → Held → StoredDefinition → Held
store_as anonymous_operation h d =
    record { operations = h.operations; fragments = h.fragments; output = h.output; anonymous = Some d; multiple = h.multiple }
store_as named_operation h d =
    record { operations = entered h.operations d; fragments = h.fragments; output = h.output; anonymous = h.anonymous; multiple = h.multiple }
store_as fragment h d =
    record { operations = h.operations; fragments = entered h.fragments d; output = h.output; anonymous = h.anonymous; multiple = h.multiple }
store_as type_system h d = h

-- the slots of a table are a sound index of the names in it, of which there may be 256
pub record Indexed (t : Table) : Type 0 where
  pub fits : t.count ≤ length t.entries
  pub slots : length t.slots ≡ 512
  pub sound : Sound same_name name_hash (names_in t) t.slots

-- there is a place for one definition more, and the name is not taken
pub record Open (name : ℕ) (t : Table) : Type 0 where
  pub fits : t.count < length t.entries
  pub few : t.count < 256
  pub free : taken_at name (taken_by t.entries t.count) ≡ None

-- what storing a definition of a role asks
abbrev pub Free : Role → ℕ → Table → Table → Type 0
Free anonymous_operation name operations fragments = Unit {0}
Free named_operation name operations fragments = Open name operations
Free fragment name operations fragments = Open name fragments
Free type_system name operations fragments = Unit {0}

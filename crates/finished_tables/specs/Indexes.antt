-- When slots are the indexes of what is stored.
use Rattle.std.specs.Prelude.{◌≡◌, map, length}
use Rattle.ordered_index.specs.Keys.{same_name, name_hash}
use Rattle.ordered_index.specs.Sound.{Sound}
use Rattle.stored_tables.specs.Layout.{name_of}
use Rattle.finished_tables.specs.declared.indexed.IndexedDocument.{IndexedDocument}

-- each index has 512 slots, which are those of the stored names
pub record HasIndexes (d : IndexedDocument) : Type 0 where
  pub operations_long : length d.operation_slots.now ≡ 512
  pub operations : Sound same_name name_hash (map name_of d.stored.operations.now) d.operation_slots.now
  pub fragments_long : length d.fragment_slots.now ≡ 512
  pub fragments : Sound same_name name_hash (map name_of d.stored.fragments.now) d.fragment_slots.now

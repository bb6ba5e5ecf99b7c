-- What a call leaves alone in the tables that are lent to it.
use Rattle.std.specs.Prelude.{◌≡◌, length, drop}
use Rattle.stored_tables.specs.declared.tables.Tables.{Tables}

-- the same tables are lent on as were lent
pub record SameTables (before after : Tables) : Type 0 where
  pub operations : after.operations.ghost_name ≡ before.operations.ghost_name
  pub operation_slots : after.operation_slots.ghost_name ≡ before.operation_slots.ghost_name
  pub fragments : after.fragments.ghost_name ≡ before.fragments.ghost_name
  pub fragment_slots : after.fragment_slots.ghost_name ≡ before.fragment_slots.ghost_name
  pub rows : after.rows.ghost_name ≡ before.rows.ghost_name
  pub errors : after.errors.ghost_name ≡ before.errors.ghost_name
  pub path_keys : after.path_keys.ghost_name ≡ before.path_keys.ghost_name

-- the slots behind the first 512 are as they were
pub record SameFurtherSlots (before after : Tables) : Type 0 where
  pub operations : drop 512 after.operation_slots.now ≡ drop 512 before.operation_slots.now
  pub fragments : drop 512 after.fragment_slots.now ≡ drop 512 before.fragment_slots.now

-- each table holds what it held
pub record Untouched (before after : Tables) : Type 0 where
  pub operations : after.operations.now ≡ before.operations.now
  pub operation_slots : after.operation_slots.now ≡ before.operation_slots.now
  pub fragments : after.fragments.now ≡ before.fragments.now
  pub fragment_slots : after.fragment_slots.now ≡ before.fragment_slots.now
  pub rows : after.rows.now ≡ before.rows.now
  pub errors : after.errors.now ≡ before.errors.now
  pub path_keys : after.path_keys.now ≡ before.path_keys.now

-- each table is as long as it was
pub record SameLengths (before after : Tables) : Type 0 where
  pub operations : length after.operations.now ≡ length before.operations.now
  pub operation_slots : length after.operation_slots.now ≡ length before.operation_slots.now
  pub fragments : length after.fragments.now ≡ length before.fragments.now
  pub fragment_slots : length after.fragment_slots.now ≡ length before.fragment_slots.now
  pub rows : length after.rows.now ≡ length before.rows.now
  pub errors : length after.errors.now ≡ length before.errors.now
  pub path_keys : length after.path_keys.now ≡ length before.path_keys.now

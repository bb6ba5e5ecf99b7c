-- The equality and the hash of the two types of keys.
use Rattle.std.specs.Prelude.{ℕ, ◌+◌, ◌*◌, ◌/◌, ◌%◌, ◌^◌, Bool, ◌&&◌, ◌==◌}
use Rattle.ordered_index.specs.declared.keys.TypeField.{TypeField}

-- a name is its number
abbrev pub same_name : ℕ → ℕ → Bool
same_name x y = x == y

abbrev pub name_hash : ℕ → ℕ
name_hash x = (x * 2654435769) % 2 ^ 32 / 2 ^ 16

-- a field is the type that owns it and its name there
abbrev pub same_field : TypeField → TypeField → Bool
same_field x y = x.owner == y.owner && x.field == y.field

abbrev pub field_hash : TypeField → ℕ
field_hash x = ((x.owner * 2654435769) % 2 ^ 32 + (x.field * 2246822507) % 2 ^ 32) % 2 ^ 32 / 2 ^ 16

-- The slots of an index: which comes first for a hash, which follows which, what they hold, how many keys they serve.
use Rattle.std.specs.Prelude.{ℕ, ◌+◌, ◌/◌, ◌%◌, min, List, length, count_by, nat_lt, slice_index}

-- the slot where probing starts: the hash's remainder by the number of slots
abbrev pub slot_start : ℕ → ℕ → ℕ
slot_start hash size = hash % size

-- the slot after a slot, around the end
abbrev pub slot_after : ℕ → ℕ → ℕ
slot_after at size = (at + 1) % size

-- the slot that is looked at after d others, for a hash
abbrev pub spot : List ℕ → ℕ → ℕ → ℕ
spot slots hash d = (hash + d) % length slots

-- what that slot holds: 0, or one more than the place of a key
abbrev pub held : List ℕ → ℕ → ℕ → ℕ
held slots hash d = slice_index slots (spot slots hash d)

-- how many slots are in use
abbrev pub used : List ℕ → ℕ
used slots = count_by (nat_lt 0) slots

-- how many keys the slots serve: there are twice as many slots, and a slot of 32 bits can name each place
abbrev pub limit : List ℕ → ℕ
limit slots = min (length slots / 2) 4294967295

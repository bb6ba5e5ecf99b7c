-- What entering a key comes to, and what the tables hold then.
use Rattle.std.specs.Prelude.{ℕ, ◌+◌, Bool, cond, ◌&&◌, List, [], ◌∷◌, ◌++◌, length, Some, None, Option, nat_le, nat_lt, slice_set}
use Rattle.ordered_index.specs.Slots.{limit}
use Rattle.ordered_index.specs.declared.probe.Probed.{Probed}
use Rattle.ordered_index.specs.declared.probe.Probed.TheVariants.{Found, Vacant, Round}
use Rattle.ordered_index.specs.declared.index.Entered.{Entered}
use Rattle.ordered_index.specs.declared.index.Entered.TheVariants.{Present, Added, Full}

-- whether the key may take the place after these entries
abbrev pub enter_room : {E : Type 0} → List E → List ℕ → Bool
enter_room entries slots = nat_lt (length entries) (limit slots)

-- whether the key may take the place after the first `count` entries, all of which the table has
abbrev pub room_after : {E : Type 0} → List E → ℕ → List ℕ → Bool
room_after entries count slots = nat_le count (length entries) && nat_lt count (limit slots)

-- the same, and the table has that place too
abbrev pub insert_room : {E : Type 0} → List E → ℕ → List ℕ → Bool
insert_room entries count slots = nat_lt count (length entries) && nat_lt count (limit slots)

-- the key is there, or takes the next place where there is room
abbrev pub entered : Probed → Bool → ℕ → Entered
entered (Found n) room count = Present n
entered (Vacant s) room count = cond room (Added count) Full
entered Round room count = Full

-- the place that the key had already
abbrev pub present : Entered → Option ℕ
present (Present n) = Some n
present (Added n) = None
present Full = None

-- a new key is named in the empty slot at which its probe ended; else the slots stay
abbrev pub slots_after : Probed → Entered → List ℕ → List ℕ
slots_after (Vacant s) (Added n) slots = slice_set slots s (n + 1)
slots_after (Vacant s) (Present n) slots = slots
slots_after (Vacant s) Full slots = slots
slots_after (Found m) r slots = slots
slots_after Round r slots = slots

-- a new entry is written at its place; else the entries stay
abbrev pub entries_after : {E : Type 0} → List E → Entered → E → List E
entries_after entries (Added n) entry = slice_set entries n entry
entries_after entries (Present n) entry = entries
entries_after entries Full entry = entries

-- a new key stands behind the others
abbrev pub keys_after : {K : Type 0} → List K → Entered → K → List K
keys_after keys (Added n) q = keys ++ q ∷ []
keys_after keys (Present n) q = keys
keys_after keys Full q = keys

abbrev pub count_after : ℕ → Entered → ℕ
count_after count (Added n) = count + 1
count_after count (Present n) = count
count_after count Full = count

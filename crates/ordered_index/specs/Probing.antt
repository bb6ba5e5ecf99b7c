-- What probing comes to, on any slots and any keys.
use Rattle.std.specs.Prelude.{ℕ, zero, suc, ◌-◌, Bool, cond, ◌&&◌, List, length, Some, None, Option, ◌==◌, nat_le, slice_index, slice_index_or}
use Rattle.ordered_index.specs.Slots.{slot_start, slot_after}
use Rattle.ordered_index.specs.declared.probe.Probed.{Probed}
use Rattle.ordered_index.specs.declared.probe.Probed.TheVariants.{Found, Vacant, Round}

-- what a slot in use holds is the place, plus 1, of a key that equals q
abbrev pub names : {K : Type 0} → (K → K → Bool) → List K → K → ℕ → Bool
names equal keys q held = nat_le held (length keys) && equal (slice_index_or keys (held - 1) q) q

-- from the slot `at`, with so many slots left to look at
abbrev pub probe : {K : Type 0} → (K → K → Bool) → List K → List ℕ → K → ℕ → ℕ → Probed
probe equal keys slots q at zero = Round
probe equal keys slots q at (suc left) =
    cond (slice_index slots at == 0) (Vacant at)
    (cond (names equal keys q (slice_index slots at)) (Found (slice_index slots at - 1))
    (probe equal keys slots q (slot_after at (length slots)) left))

-- from the slot that the hash of q chooses, over all slots
abbrev pub probe_for : {K : Type 0} → (K → K → Bool) → (K → ℕ) → List K → List ℕ → K → Probed
probe_for equal digest keys slots q = probe equal keys slots q (slot_start (digest q) (length slots)) (length slots)

abbrev pub found_at : Probed → Option ℕ
found_at (Found n) = Some n
found_at (Vacant s) = None
found_at Round = None

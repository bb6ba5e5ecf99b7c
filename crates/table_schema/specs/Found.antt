-- What is found by a key: the first entry that has it, and its place, whether by a search from the front or through slots.
use Rattle.std.specs.Prelude.{◌≡◌, ℕ, Bool, List, map, Option}
use Rattle.std.specs.List.{find, position_from}
use Rattle.ordered_index.specs.Probing.{probe_for, found_at}

-- the place of the first entry that has the key
abbrev pub place_with : {E K : Type 0} → (E → K) → (K → K → Bool) → K → List E → Option ℕ
place_with keyed equal key entries = position_from (λ e. equal (keyed e) key) 0 entries

-- the first entry that has the key
abbrev pub first_with : {E K : Type 0} → (E → K) → (K → K → Bool) → K → List E → Option E
first_with keyed equal key entries = find (λ e. equal (keyed e) key) entries

-- for every key, the slots answer with the place of the first entry that has it
abbrev pub KeysFound : {E K : Type 0} → (E → K) → (K → K → Bool) → (K → ℕ) → List E → List ℕ → Type 0
KeysFound {E} {K} keyed equal digest entries slots =
    (key : K) → found_at (probe_for equal digest (map keyed entries) slots key) ≡ place_with keyed equal key entries

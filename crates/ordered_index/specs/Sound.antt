-- When slots are a sound index of a row of keys, and where a key is in the row.
use Rattle.std.specs.Prelude.{◌≡◌, ℕ, ◌+◌, ◌<◌, ◌≤◌, Bool, true, false, List, map, length, take, Some, None, Option, slice_index, slice_index_or}
use Rattle.std.specs.Int.{IsPowerOfTwo}
use Rattle.ordered_index.specs.Slots.{held, used, limit}

-- the keys of the first entries of a table, so many as are in use
abbrev pub keys_of : {E K : Type 0} → (E → K) → ℕ → List E → List K
keys_of keyed count entries = map keyed (take count entries)

-- the place n is reached from a hash, over slots that are all in use
pub record Reached (slots : List ℕ) (hash n : ℕ) : Type 0 where
  pub way : ℕ
  pub within : way < length slots
  pub here : held slots hash way ≡ n + 1
  pub passed : (e : ℕ) → e < way → 0 < held slots hash e

-- the slots are an index of the keys: there are a power of two of them and the keys keep their limit, no slot holds a
-- place past the keys, as many slots are in use as there are keys, each key is reached from its hash, no two are equal
pub record Sound {K : Type 0} (equal : K → K → Bool) (digest : K → ℕ) (keys : List K) (slots : List ℕ) : Type 0 where
  pub power : IsPowerOfTwo (length slots)
  pub few : length keys ≤ limit slots
  pub ranged : (s : ℕ) → slice_index slots s ≤ length keys
  pub filled : used slots ≡ length keys
  pub reached : (n : ℕ) (x : K) → n < length keys → Reached slots (digest (slice_index_or keys n x)) n
  pub apart : (i j : ℕ) (x : K) → i < j → j < length keys → equal (slice_index_or keys i x) (slice_index_or keys j x) ≡ false

-- no key of the row equals q
abbrev pub Absent : {K : Type 0} → (K → K → Bool) → List K → K → Type 0
Absent {K} equal keys q = (n : ℕ) (x : K) → n < length keys → equal (slice_index_or keys n x) q ≡ false

-- the key at n equals q
pub record Stands {K : Type 0} (equal : K → K → Bool) (keys : List K) (q : K) (n : ℕ) : Type 0 where
  pub inside : n < length keys
  pub equals : (x : K) → equal (slice_index_or keys n x) q ≡ true

-- n is the one place of q
pub record Only {K : Type 0} (equal : K → K → Bool) (keys : List K) (q : K) (n : ℕ) : Type 0 where
  pub stands : Stands equal keys q n
  pub only : (m : ℕ) (x : K) → m < length keys → equal (slice_index_or keys m x) q ≡ true → m ≡ n

-- `Some n` exactly where n is the one place of q, and `None` exactly where it has none
abbrev pub Located : {K : Type 0} → (K → K → Bool) → List K → K → Option ℕ → Type 0
Located equal keys q (Some n) = Only equal keys q n
Located equal keys q None = Absent equal keys q

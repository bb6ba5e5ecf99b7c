-- Where a probe ends, as relations: what it passed on its way, and what it met.
use Rattle.std.proofs.Common.{◌≡◌, ℕ, ◌+◌, ◌<◌, Bool, true, false, List, length, get_or}
use Rattle.ordered_index.specs.Slots.{spot, held}
use Rattle.ordered_index.specs.declared.probe.Probed.{Probed}
use Rattle.ordered_index.specs.declared.probe.Probed.TheVariants.{Found, Vacant, Round}

-- the slot after e others is in use, and not by a key that equals q
pub record Missed {K : Type 0} (equal : K → K → Bool) (keys : List K) (slots : List ℕ) (q : K) (h e : ℕ) : Type 0 where
  pub taken : 0 < held slots h e
  pub other : (n : ℕ) (x : K) → held slots h e ≡ n + 1 → n < length keys → equal (get_or keys n x) q ≡ false

abbrev pub AllMissed : {K : Type 0} → (K → K → Bool) → List K → List ℕ → K → ℕ → ℕ → Type 0
AllMissed equal keys slots q h d = (e : ℕ) → e < d → Missed equal keys slots q h e

-- the probe comes to the place n, whose key equals q
pub record Meets {K : Type 0} (equal : K → K → Bool) (keys : List K) (slots : List ℕ) (q : K) (h n : ℕ) : Type 0 where
  pub inside : n < length keys
  pub equals : (x : K) → equal (get_or keys n x) q ≡ true
  pub way : ℕ
  pub within : way < length slots
  pub here : held slots h way ≡ n + 1
  pub before : AllMissed equal keys slots q h way

-- the probe comes to the empty slot s
pub record Ends {K : Type 0} (equal : K → K → Bool) (keys : List K) (slots : List ℕ) (q : K) (h s : ℕ) : Type 0 where
  pub inside : s < length slots
  pub vacant : get_or slots s 0 ≡ 0
  pub way : ℕ
  pub within : way < length slots
  pub here : s ≡ spot slots h way
  pub before : AllMissed equal keys slots q h way

abbrev pub Outcome : {K : Type 0} → (K → K → Bool) → List K → List ℕ → K → ℕ → Probed → Type 0
Outcome equal keys slots q h (Found n) = Meets equal keys slots q h n
Outcome equal keys slots q h (Vacant s) = Ends equal keys slots q h s
Outcome equal keys slots q h Round = AllMissed equal keys slots q h (length slots)

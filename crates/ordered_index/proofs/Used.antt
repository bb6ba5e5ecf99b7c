-- So many slots are in use as can be counted.
use Rattle.std.proofs.Common.{ℕ, ◌<◌, ◌^◌, List, length, nat_lt, arith}
use Rattle.std.proofs.lemmas.List.Sums.{count_by-le-length}
use Rattle.ordered_index.specs.Slots.{used}

-- there are no more of them than slots
pub few : (slots : List ℕ) → length slots < 2 ^ 64 → used slots < 2 ^ 64
few slots low = omega (arith, low, count_by-le-length (nat_lt 0) slots)

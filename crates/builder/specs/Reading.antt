-- Reading what is listed: the keys of a path.
use Rattle.std.specs.Prelude.{ℕ, ◌-◌, cond, ◌&&◌, List, [], length, take, drop, nat_le}

-- what stands from one place up to another, where there are so many; else nothing
abbrev pub keys_between : List ℕ → ℕ → ℕ → List ℕ
keys_between keys first end = cond (nat_le first end && nat_le end (length keys)) (take (end - first) (drop first keys)) []

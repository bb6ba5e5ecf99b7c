-- Which numbers are names, and the texts of the fixed names. Assumes nothing.
use Rattle.std.specs.Prelude.{ℕ, cond, List, Some, None, codes, Option, ◌==◌}

-- Every number but 0 is a name.
abbrev pub name_or_none : ℕ → Option ℕ
name_or_none n = cond (n == 0) None (Some n)

-- The text of the fixed name of this number, as its bytes; the names are numbered from 1.
abbrev pub fixed_text : ℕ → Option (List ℕ)
fixed_text n =
    cond (n == 1) (Some (codes "Query"))
    (cond (n == 2) (Some (codes "Mutation"))
    (cond (n == 3) (Some (codes "Subscription"))
    (cond (n == 4) (Some (codes "__typename"))
    (cond (n == 5) (Some (codes "__schema"))
    (cond (n == 6) (Some (codes "__type"))
    (cond (n == 7) (Some (codes "String"))
    (cond (n == 8) (Some (codes "__Schema"))
    (cond (n == 9) (Some (codes "__Type"))
    (cond (n == 10) (Some (codes "name"))
    (cond (n == 11) (Some (codes "UNKNOWN")) None))))))))))

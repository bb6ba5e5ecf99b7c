-- What building a set can store and list is no more than its selections and their paths.
use Rattle.std.proofs.Common.{◌≡◌, ℕ, suc, ◌+◌, ◌≤◌, not, leb, List, ◌++◌, length, ap, arith, length-append}
use Rattle.std.proofs.lemmas.Bool.{le-leb, lt-leb}
use Rattle.layout.specs.Forest.{Forest, none, row, size}
use Rattle.document.specs.declared.rows.SelectionRow.{SelectionRow}
use Rattle.document.specs.declared.handed.sets.SelectionSet.{SelectionSet}
use Rattle.document.specs.Rows.{Selection}
use Rattle.document.specs.Sets.{Holds}
use Rattle.schema.specs.Meaning.{Meaning}
use Rattle.selection_rules.specs.declared.settling.Settled.{Settled}
use Rattle.selection_rules.specs.declared.settling.Settled.TheVariants.{Kept, Dropped, Faulty}
use Rattle.selection_rules.specs.Stored.{Stored}
use Rattle.selection_rules.specs.Sets.{settled_in}
use Rattle.selection_rules.specs.Errors.{Path, Error}
use Rattle.selection_rules.specs.Sets.{path_to, some_row, listed, errors, keep, build}

-- a set that is not empty stands for some selection
pub some_beneath : (rows : List SelectionRow) (set : SelectionSet) (f : Forest Selection) → Holds rows set f → not (leb set.end set.next) ≡ some_row f
some_beneath rows set none h = ap not (le-leb set.end set.next (omega (arith, h.stand.ends)))
some_beneath rows set (row s below after) h = ap not (lt-leb set.end set.next (omega (arith, h.stand.ends)))

-- a selection is stored or listed, and no other is
kept_few : (v : Settled) (p : Path) (around : ℕ) (s : Selection) (below : ℕ → Forest Stored) (after : Forest Stored) (lower : ℕ → List Error) (later : List Error) (b k : ℕ)
    → ((inner : ℕ) → size (below inner) + length (lower inner) ≤ b) → size after + length later ≤ k
    → size (keep v s below after) + length (listed v p around s lower ++ later) ≤ suc (b + k)
kept_few (Kept place inner) p around s below after lower later b k few rest =
    let one = few inner in omega (arith, length-append (lower inner) later)
kept_few Dropped p around s below after lower later b k few rest = omega arith
kept_few (Faulty fault) p around s below after lower later b k few rest = omega arith

pub set_few : (m : Meaning) (p : Path) (around : ℕ) (f : Forest Selection) → size (build m around f) + length (errors m p around f) ≤ size f
set_few m p around none = omega arith
set_few m p around (row s below after) =
    kept_few (settled_in m around s (some_row below)) (path_to p s) around s (λ inner. build m inner below) (build m around after)
    (λ inner. errors m (path_to p s) inner below) (errors m p around after) (size below) (size after)
    (λ inner. set_few m (path_to p s) inner below) (set_few m p around after)

-- Kept rows have the places and the set types that the schema answers, and kept definitions the types around them: so where
-- two of them are the same, these agree too.
use Rattle.std.specs.Prelude.{◌≡◌, ℕ, ◌↔◌, List}
use Rattle.std.specs.List.{AllByRecursion}
use Rattle.layout.specs.Forest.{Forest, none, row}
use Rattle.document.specs.Rows.{Selection}
use Rattle.schema.specs.Meaning.{Meaning}
use Rattle.selection_rules.specs.Stored.{Stored}
use Rattle.selection_rules.specs.Sets.{build}
use Rattle.building_rules.specs.Definitions.{Accepted, Kept, kept_in}
use Rattle.building_rules.specs.Rules.{Inside, Around}
use Rattle.building_rules.specs.Keeping.{StoredAs}
use Rattle.finished_rules.specs.Same.{Alike, SameSelection, SameHead, Same}
use Rattle.finished_rules.specs.SameTables.{SameSets}

-- each of the rows, in the type `around`, is stored as the schema answers, and those beneath it are so in the type inside it
abbrev pub Answered : Meaning → ℕ → Forest Stored → Type 0
Answered m around none = Unit {0}
Answered m around (row x below after) =
    StoredAs m around x.selection x
    × ((inner : ℕ) × Inside m around x.selection inner × Answered m inner below)
    × Answered m around after

-- what is built of selections is as the schema answers
abbrev pub BuildIsAnswered : Type 0
BuildIsAnswered = (m : Meaning) (around : ℕ) (f : Forest Selection) → Answered m around (build m around f)

-- two forests of rows in one type: where the members that were handed in agree, so do the places and the set types
abbrev pub RowsFollow : Type 0
RowsFollow =
    (m : Meaning) (around : ℕ) (f g : Forest Stored) → Answered m around f → Answered m around g
    → Alike (λ x y. SameSelection x.selection y.selection) f g ↔ SameSets f g

-- a kept definition has the type that the schema answers, and its rows are as the schema answers in it
pub record KeptAsAnswered (m : Meaning) (k : Kept) : Type 0 where
  pub around : Around m k.head k.set_type
  pub rows : Answered m k.set_type k.rows

-- every kept definition is as the schema answers
abbrev pub KeptIsAnswered : Type 0
KeptIsAnswered = (m : Meaning) (ds : List Accepted) → AllByRecursion (KeptAsAnswered m) (kept_in m ds)

-- all stored members of two kept definitions agree, but locations and ranges, and so do those of the rows beneath them
pub record SameAsStored (k j : Kept) : Type 0 where
  pub heads : SameHead k.head j.head
  pub set_type : k.set_type ≡ j.set_type
  pub rows : SameSets k.rows j.rows

-- two kept definitions over one schema: where the members that were handed in agree, so do the others
abbrev pub AnswersFollow : Type 0
AnswersFollow =
    (m : Meaning) (k j : Kept) → KeptAsAnswered m k → KeptAsAnswered m j → Same k j ↔ SameAsStored k j

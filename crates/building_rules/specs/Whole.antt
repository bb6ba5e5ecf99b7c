-- Of a valid document everything is kept.
use Rattle.std.specs.Prelude.{◌≡◌, List, map, filter}
use Rattle.layout.specs.Forest.{Forest, none, row}
use Rattle.document.specs.Rows.{Selection}
use Rattle.document.specs.Document.{Definition}
use Rattle.schema.specs.Meaning.{Meaning, Closed}
use Rattle.schema.specs.Law.{Lawful}
use Rattle.selection_rules.specs.Stored.{Stored}
use Rattle.building_rules.specs.Definitions.{Accepted, Kept, kept_in}
use Rattle.building_rules.specs.Rules.{is_executable, Valid}

-- the selections that were handed in for the stored ones
abbrev pub handed : Forest Stored → Forest Selection
handed none = none
handed (row x below after) = row x.selection (handed below) (handed after)

-- the definition that was handed in for a stored one, as far as it is stored
abbrev pub handed_for : Kept → Definition
handed_for k = record { head = k.head; selected = handed k.rows }

abbrev pub definition_of : Accepted → Definition
definition_of d = record { head = d.head; selected = d.selected }

-- what is kept are the operations and fragments, in their order, each with all of its selections
abbrev pub KeptWhole : Meaning → List Accepted → Type 0
KeptWhole m ds = map handed_for (kept_in m ds) ≡ map definition_of (filter is_executable ds)

abbrev pub ValidKeptWhole : Meaning → Type 0
ValidKeptWhole m = Closed m → (ds : List Accepted) → Valid m ds → KeptWhole m ds

-- for every schema that keeps the law
abbrev pub ValidIsKeptWhole : Type 0
ValidIsKeptWhole = (m : Meaning) → Lawful m → ValidKeptWhole m

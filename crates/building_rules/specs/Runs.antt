-- Definitions in two parts: the second goes on where the first left off.
use Rattle.std.specs.Prelude.{◌≡◌, List, ◌++◌}
use Rattle.schema.specs.Meaning.{Meaning}
use Rattle.building_rules.specs.Definitions.{Accepted, State, errors_from, kept_from, state_after}

pub record Goes_on (m : Meaning) (s : State) (ds es : List Accepted) : Type 0 where
  pub errors : errors_from m s (ds ++ es) ≡ errors_from m s ds ++ errors_from m (state_after m s ds) es
  pub kept : kept_from m s (ds ++ es) ≡ kept_from m s ds ++ kept_from m (state_after m s ds) es
  pub state : state_after m s (ds ++ es) ≡ state_after m (state_after m s ds) es

abbrev pub RunsGoOn : Type 0
RunsGoOn = (m : Meaning) (s : State) (ds es : List Accepted) → Goes_on m s ds es

-- No error is listed exactly when the definitions keep the eight rules.
use Rattle.std.specs.Prelude.{◌≡◌, ◌↔◌, List, []}
use Rattle.schema.specs.Meaning.{Meaning, Closed}
use Rattle.schema.specs.Law.{Lawful}
use Rattle.building_rules.specs.Definitions.{Accepted, errors_in}
use Rattle.building_rules.specs.Rules.{Valid}

-- where the schema knows each type that it answers with
abbrev pub ExactlyWhenValid : Meaning → Type 0
ExactlyWhenValid m = Closed m → (ds : List Accepted) → (errors_in m ds ≡ []) ↔ Valid m ds

-- for every schema that keeps the law
abbrev pub NoErrorsExactlyWhenValid : Type 0
NoErrorsExactlyWhenValid = (m : Meaning) → Lawful m → ExactlyWhenValid m

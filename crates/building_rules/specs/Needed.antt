-- A schema that answers with a type that it does not know lists no error for a document that is not valid; and the rules
-- are neither always kept nor never.
use Rattle.std.specs.Prelude.{◌≡◌, ℕ, true, cond, List, [], ◌∷◌, Some, None, Ok, Err, ◌==◌}
use Rattle.layout.specs.Forest.{Forest, none, row}
use Rattle.document.specs.Rows.{Selection}
use Rattle.schema.specs.declared.answers.FieldLookupError.TheVariants.{NoSuchType}
use Rattle.schema.specs.Meaning.{Meaning, Closed}
use Rattle.schema.specs.Law.{Lawful}
use Rattle.schema.specs.Meta.{defined}
use Rattle.schema.specs.Open.{open_meaning}
use Rattle.building_rules.specs.Definitions.{Accepted, errors_in}
use Rattle.building_rules.specs.Rules.{Valid}

-- the type 1, the root of all operations, has every field, of the type 99, which is not known
abbrev pub dangling : Meaning
dangling =
    record {
      root = λ operation. Some 1;
      known = λ t. (t == 1);
      sort = λ t. None;
      field = λ t f. cond (t == 1) (Ok (defined 1 99)) (Err NoSuchType);
    }

-- a field by its name and location, with what stands beneath it
abbrev pub selecting : ℕ → ℕ → Forest Selection → Forest Selection
selecting name at below =
    row
    (record { kind = 1; name = name; alias = 0; condition = 0; arguments = 0; directives = 0; location = at; name_location = at; condition_location = 0 })
    below none

-- an anonymous query at a location
abbrev pub querying : ℕ → Forest Selection → Accepted
querying at selected =
    record {
      head = record { kind = 1; operation_type = 0; name = 0; condition = 0; variables = 0; directives = 0; location = at; name_location = 0; condition_location = 0 };
      selected = selected;
      strict = true;
    }

-- { unit { id } }
abbrev pub nested : List Accepted
nested = querying 1 (selecting 12 3 (selecting 13 10 none)) ∷ []

-- { unit } { unit }
abbrev pub twice : List Accepted
twice = querying 1 (selecting 12 3 none) ∷ querying 10 (selecting 12 12 none) ∷ []

pub record ClosedIsNeeded : Type 0 where
  pub lawful : Lawful dangling
  pub listed : errors_in dangling nested ≡ []
  pub invalid : Valid dangling nested → ⊥

-- the open schema keeps the law and is closed; one document is valid in it, and another is not
pub record SomeAreValid : Type 0 where
  pub lawful : Lawful open_meaning
  pub closed : Closed open_meaning
  pub valid : Valid open_meaning nested
  pub invalid : Valid open_meaning twice → ⊥

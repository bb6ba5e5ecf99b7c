-- What the open schema answers. Assumes nothing.
use Rattle.std.specs.Prelude.{ℕ, true, Some, None, Ok}
use Rattle.schema.specs.declared.answers.OperationType.{OperationType}
use Rattle.schema.specs.declared.answers.OperationType.TheVariants.{Query, Mutation, Subscription}
use Rattle.schema.specs.declared.answers.FieldDefinition.{FieldDefinition}
use Rattle.schema.specs.Meaning.{Meaning}

-- Operations start at the types Query, Mutation and Subscription: the fixed names 1, 2 and 3.
abbrev pub open_root : OperationType → ℕ
open_root Query = 1
open_root Mutation = 2
open_root Subscription = 3

-- Every field has no definition's place and the type UNKNOWN, the fixed name 11.
abbrev pub open_field : FieldDefinition
open_field = record { place = 0; inner = 11 }

-- Every type is known, the kind of none is told, and every field is found in each.
abbrev pub open_meaning : Meaning
open_meaning = record {
  root = λ operation. Some (open_root operation);
  known = λ _. true;
  sort = λ _. None;
  field = λ _ _. Ok open_field;
}

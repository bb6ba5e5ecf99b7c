-- The meaning of a schema: the four answers that it gives; and when a schema is closed. Assumes nothing.
use Rattle.std.specs.Prelude.{◌≡◌, ℕ, Bool, true, Some, Ok, Option, Result}
use Rattle.schema.specs.declared.answers.OperationType.{OperationType}
use Rattle.schema.specs.declared.answers.TypeKind.{TypeKind}
use Rattle.schema.specs.declared.answers.FieldDefinition.{FieldDefinition}
use Rattle.schema.specs.declared.answers.FieldLookupError.{FieldLookupError}

pub record Meaning : Type 0 where
  -- the type at which operations of a type start
  pub root : OperationType → Option ℕ
  -- whether a type is known
  pub known : ℕ → Bool
  -- the kind of a type
  pub sort : ℕ → Option TypeKind
  -- the field, by its name, of a type
  pub field : ℕ → ℕ → Result FieldDefinition FieldLookupError

-- The schema knows each type that it answers with: each root, and the inner type of each field.
pub record Closed (m : Meaning) : Type 0 where
  pub roots : (operation : OperationType) (t : ℕ) → m.root operation ≡ Some t → m.known t ≡ true
  pub inners : (t f : ℕ) (x : FieldDefinition) → m.field t f ≡ Ok x → m.known x.inner ≡ true

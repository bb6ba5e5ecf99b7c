-- The law of every schema. Assumes nothing.
use Rattle.std.specs.Prelude.{◌≡◌, ℕ, true, false, None, Err, ◌≢◌}
use Rattle.schema.specs.declared.answers.FieldLookupError.TheVariants.{NoSuchType}
use Rattle.schema.specs.Meaning.{Meaning}

-- "No such type" is answered exactly for unknown types, and only known types have a kind:
-- of an unknown type every field is answered so, of a known type none is, and an unknown type has no kind.
pub record Lawful (m : Meaning) : Type 0 where
  pub unknown : (t f : ℕ) → m.known t ≡ false → m.field t f ≡ Err NoSuchType
  pub present : (t f : ℕ) → m.known t ≡ true → m.field t f ≢ Err NoSuchType
  pub sorted : (t : ℕ) → m.known t ≡ false → m.sort t ≡ None

-- What the walks answer.
use Rattle.std.specs.Prelude.{◌≡◌, ℕ, Bool, List, length, Option, Decides}
use Rattle.finished_tables.specs.declared.indexed.IndexedDocument.{IndexedDocument}
use Rattle.stored_tables.specs.declared.definition.StoredDefinition.{StoredDefinition}
use Rattle.walking.specs.declared.judge.Lengths.{Lengths}
use Rattle.walking.specs.Refusals.{Accepted}
use Rattle.walking.specs.declared.turn.Scope.TheVariants.{Flat}
use Rattle.walking.specs.Walk.{Listing}
use Rattle.walking.specs.Listed.{Lists}
use Rattle.walking.specs.Introspection.{Introspection}

abbrev pub lengths : ℕ → ℕ → Option ℕ → Lengths
lengths stack marks list = record { stack = stack; marks = marks; list = list }

-- the operation is walked: its fields are counted, and their places written
pub record FieldsOf (d : IndexedDocument) (operation : ℕ) (lent : Lengths) (written : List ℕ → Type 0) (n : ℕ) : Type 0 where
  pub definition : StoredDefinition
  pub accepted : Accepted d operation lent definition
  pub places : List ℕ
  pub lists : Lists d.stored definition places
  pub counted : n ≡ length places
  pub listed : written places

-- the operation is walked without what stands beneath fields, and there is one such walk: whether it is introspection only
pub record IntrospectionOf (d : IndexedDocument) (operation : ℕ) (lent : Lengths) (answer : Bool) : Type 0 where
  pub definition : StoredDefinition
  pub accepted : Accepted d operation lent definition
  pub places : List ℕ
  pub listing : Listing d.stored Flat definition places
  pub only : (others : List ℕ) → Listing d.stored Flat definition others → others ≡ places
  pub decides : Decides answer (Introspection d.stored definition places)

-- When a walk is refused, and what is the case where it is not; and what becomes of a list that is lent.
use Rattle.std.specs.Prelude.{◌≡◌, ℕ, zero, suc, ◌+◌, ◌*◌, Bool, true, false, ◌||◌, length, Some, None, Option, nat_lt, slice_get}
use Rattle.finished_tables.specs.declared.indexed.IndexedDocument.{IndexedDocument}
use Rattle.finished_tables.specs.Indexes.{HasIndexes}
use Rattle.stored_tables.specs.declared.definition.StoredDefinition.{StoredDefinition}
use Rattle.stored_tables.specs.declared.stored.StoredDocument.{StoredDocument}
use Rattle.stored_tables.specs.declared.fault.StoredFault.{StoredFault}
use Rattle.stored_tables.specs.Verdict.{fault_of}
use Rattle.walking.specs.declared.judge.Lengths.{Lengths}
use Rattle.walking.specs.declared.fault.WalkFault.{WalkFault}
use Rattle.walking.specs.declared.fault.WalkFault.TheVariants.{TooShort, Stored, IndexUnfit, NoOperation}

-- whether a list, where there is one, is shorter than so many rows
abbrev pub list_short : ℕ → Option ℕ → Bool
list_short rows None = false
list_short rows (Some long) = nat_lt long rows

-- whether, for so many fragments and rows, the stack has fewer than 33 places for each fragment and 33 more, the marks are
-- fewer than the fragments, or the list is shorter than the rows
abbrev pub short_for : ℕ → ℕ → Lengths → Bool
short_for fragments rows lent = nat_lt lent.stack (33 * (fragments + 1)) || (nat_lt lent.marks fragments || list_short rows lent.list)

abbrev pub too_short : StoredDocument → Lengths → Bool
too_short d lent = short_for (length d.fragments.now) (length d.rows.now) lent

-- the operation at a place: at 0 the anonymous one, at n the nth named one
abbrev pub operation_at : StoredDocument → ℕ → Option StoredDefinition
operation_at d zero = d.anonymous
operation_at d (suc n) = slice_get d.operations.now n

-- why a walk is refused: the first that is not as it should be
pub data Refused (d : IndexedDocument) (operation : ℕ) (lent : Lengths) : WalkFault → Type 0 where
  short : too_short d.stored lent ≡ true → Refused d operation lent TooShort
  faulty : (f : StoredFault) → too_short d.stored lent ≡ false → fault_of d.stored ≡ Some f → Refused d operation lent (Stored f)
  unfit : too_short d.stored lent ≡ false → fault_of d.stored ≡ None → (HasIndexes d → ⊥) → Refused d operation lent IndexUnfit
  absent : too_short d.stored lent ≡ false → fault_of d.stored ≡ None → HasIndexes d → operation_at d.stored operation ≡ None
      → Refused d operation lent NoOperation

-- nothing is in the way of a walk of the operation, which is s
pub record Accepted (d : IndexedDocument) (operation : ℕ) (lent : Lengths) (s : StoredDefinition) : Type 0 where
  pub long : too_short d.stored lent ≡ false
  pub clean : fault_of d.stored ≡ None
  pub indexed : HasIndexes d
  pub there : operation_at d.stored operation ≡ Some s

-- Comparing two documents: which refusal comes first, and the answer.
use Rattle.std.specs.Prelude.{◌≡◌, Bool, Decides, Some, None, Ok, Err, Result}
use Rattle.stored_tables.specs.declared.fault.StoredFault.{StoredFault}
use Rattle.stored_tables.specs.Verdict.{fault_of}
use Rattle.finished_tables.specs.declared.indexed.IndexedDocument.{IndexedDocument}
use Rattle.finished_tables.specs.Indexes.{HasIndexes}
use Rattle.comparison.specs.declared.fault.CompareFault.{CompareFault}
use Rattle.comparison.specs.declared.fault.CompareFault.TheVariants.{First, Second, IndexUnfit}
use Rattle.finished_rules.specs.SameTables.{SameDocuments}

-- the answer to two documents: the first fault of the first, else that of the second; else whether all indexes fit; else
-- whether the two are the same
pub data Compares (a b : IndexedDocument) : Result Bool CompareFault → Type 0 where
  first : (f : StoredFault) → fault_of a.stored ≡ Some f → Compares a b (Err (First f))
  second : (f : StoredFault) → fault_of a.stored ≡ None → fault_of b.stored ≡ Some f → Compares a b (Err (Second f))
  unfit : fault_of a.stored ≡ None → fault_of b.stored ≡ None → (HasIndexes a × HasIndexes b → ⊥) → Compares a b (Err IndexUnfit)
  compared : (same : Bool) → fault_of a.stored ≡ None → fault_of b.stored ≡ None → HasIndexes a → HasIndexes b → Decides same (SameDocuments a.stored b.stored) → Compares a b (Ok same)

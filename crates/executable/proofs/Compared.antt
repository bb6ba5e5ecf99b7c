-- Comparing the tables of finished documents tells whether what is kept is the same.
use Rattle.std.proofs.Common.{◌≡◌, Bool, List, Some, None, Result, arith}
use Rattle.std.specs.List.{AllByRecursion}
use Rattle.schema.specs.Meaning.{Meaning}
use Rattle.building_rules.specs.Calls.{Call, accepted, kept}
use Rattle.building_rules.specs.Storable.{Sound}
use Rattle.stored_tables.specs.declared.fault.StoredFault.{StoredFault}
use Rattle.finished_tables.specs.declared.indexed.IndexedDocument.{IndexedDocument}
use Rattle.finished_rules.proofs.Compared.{tables_compare}
use Rattle.comparison.specs.declared.fault.CompareFault.{CompareFault}
use Rattle.comparison.specs.Comparing.{Compares, first, second, unfit, compared}
use Rattle.builder.specs.Finished.{IsFinished}
use Rattle.executable.specs.Comparing.{told, SaysSame}

clash : {X : Type 0} (f : StoredFault) (o : _) → o ≡ None → o ≡ Some f → X
clash f o none some = absurd (grind (arith, none, some))

module _ (m : Meaning) (calls others : List Call) (sound : AllByRecursion Sound (accepted calls)) (other_sound : AllByRecursion Sound (accepted others))
    (x y : IndexedDocument) (v : IsFinished (kept m calls) x) (w : IsFinished (kept m others) y) where
  pub says_same : (r : Result Bool CompareFault) → Compares x y r → SaysSame (kept m calls) (kept m others) (told r)
  says_same _ (first f is) = clash f _ v.clean is
  says_same _ (second f fine is) = clash f _ w.clean is
  says_same _ (unfit fine also other) = absurd (other (v.indexes, w.indexes))
  says_same _ (compared same fine also one two decides) =
      let both = tables_compare m (accepted calls) (accepted others) sound other_sound x.stored y.stored v.holds w.holds in
      (λ yes. both.0 (decides.0 yes), λ each. decides.1 (both.1 each))

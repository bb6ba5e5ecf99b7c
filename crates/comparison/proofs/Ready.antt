-- A document without a fault, whose indexes fit, has its tables in order: the rows in the range of each definition are those
-- of a forest.
use Rattle.std.proofs.Common.{◌≡◌, ◌+◌, Bool, false, List, [], ◌∷◌, ◌++◌, map, length, get_or, All, Some, None, Option, sym, refl, ap, ◌∙◌, ⊎_elim, arith}
use Rattle.std.specs.List.{Contains, list_any}
use Rattle.std.proofs.lemmas.Bool.{cases_Bool, or_parts, false≢true}
use Rattle.std.proofs.lemmas.List.Elements.{Contains-get_or, Contains-append_left, Contains-append_right}
use Rattle.std.proofs.lemmas.List.Folds.{list_any_at}
use Rattle.layout.specs.declared.row.RowView.{RowView}
use Rattle.layout.specs.declared.row.Misfit.{Misfit}
use Rattle.layout.specs.Places.{first_misfit}
use Rattle.layout.proofs.Forests.{lawful}
use Rattle.selection_rules.specs.declared.stored.StoredRow.{StoredRow}
use Rattle.selection_rules.specs.Stored.{stored_selections, stored_rules, stored_view}
use Rattle.stored_tables.specs.declared.definition.StoredDefinition.{StoredDefinition}
use Rattle.stored_tables.specs.Verdict.{no_stored_row, unfit, alone, all_stored, stored_fault, fault_of}
use Rattle.stored_tables.specs.Ranges.{Placed}
use Rattle.stored_tables.proofs.Places.{place_none, place_of}
use Rattle.stored_tables.proofs.Following.{placed_at, in_place}
use Rattle.stored_tables.proofs.Misfits.{unfit_places}
use Rattle.stored_tables.proofs.Faultless.{Faultless, faultless, fitting}
use Rattle.finished_tables.specs.declared.indexed.IndexedDocument.{IndexedDocument}
use Rattle.finished_tables.specs.Indexes.{HasIndexes}
use Rattle.comparison.specs.Ranged.{RangedIn, RangedIf, ReadyDocument}

no_misfit_there : (m : Option Misfit) → place_of m ≡ None → m ≡ None
no_misfit_there None is = refl
no_misfit_there (Some m) is = absurd (grind arith)

-- where none passes, an element does not
none_passes : (p : StoredDefinition → Bool) (ds : List StoredDefinition) (d : StoredDefinition) → list_any p ds ≡ false → Contains ds d → p d ≡ false
none_passes p ds d none here =
    ⊎_elim (λ is. absurd (false≢true (sym none ∙ list_any_at p ds here.0 d here.1 (ap p here.2 ∙ is)))) (λ is. is) (cases_Bool (p d))

module _ (anonymous : Option StoredDefinition) (operations fragments : List StoredDefinition) (rows : List StoredRow) (clean : stored_fault anonymous operations fragments rows ≡ None) where
  abbrev views : List RowView
  views = map stored_view rows

  abbrev all : List StoredDefinition
  all = all_stored anonymous operations fragments

  whole : Faultless anonymous operations fragments rows
  whole = faultless anonymous operations fragments rows clean

  -- the rows of a definition are those of a forest
  ranged : (d : StoredDefinition) → Contains all d → Placed (length rows) d → RangedIn rows d
  ranged d here placed =
      let none : first_misfit views d.row.first d.row.end 32 ≡ None =
      no_misfit_there _
      (sym (unfit_places views (length rows) d placed)
      ∙ place_none (λ row. unfit views row d) 0 (length rows)
      (λ row low.
      let at : 0 + row ≡ row = omega arith in
      ap (λ k. unfit views k d) at ∙ none_passes (unfit views row) all d (fitting anonymous operations fragments rows whole row low) here)) in
      let f = lawful stored_selections stored_rules rows no_stored_row d.row.first d.row.end 32 placed.ordered placed.within none in
      record { within = placed.within; forest = f.0; stand = f.1.stand }

  pub ranged_operations : All (RangedIn rows) operations
  ranged_operations i d low =
      ranged (get_or operations i d) (Contains-append_left operations (fragments ++ alone anonymous) _ (Contains-get_or operations i d low)) (placed_at _ 0 operations i d whole.operations low)

  pub ranged_fragments : All (RangedIn rows) fragments
  ranged_fragments i d low =
      ranged (get_or fragments i d)
      (Contains-append_right operations (fragments ++ alone anonymous) _ (Contains-append_left fragments (alone anonymous) _ (Contains-get_or fragments i d low)))
      (placed_at _ 0 fragments i d whole.fragments low)

ranged_anonymous : (anonymous : Option StoredDefinition) (operations fragments : List StoredDefinition) (rows : List StoredRow) → stored_fault anonymous operations fragments rows ≡ None → RangedIf rows anonymous
ranged_anonymous None operations fragments rows clean = tt
ranged_anonymous (Some d) operations fragments rows clean =
    ranged (Some d) operations fragments rows clean d
    (Contains-append_right operations (fragments ++ d ∷ []) d (Contains-append_right fragments (d ∷ []) d (0, omega arith, refl)))
    (in_place 0 (length rows) d (or_parts _ _ (whole (Some d) operations fragments rows clean).anonymous).1).placed

pub ready : (d : IndexedDocument) → fault_of d.stored ≡ None → HasIndexes d → ReadyDocument d
ready d clean indexes =
    let s = d.stored in
    record {
      anonymous = ranged_anonymous s.anonymous s.operations.now s.fragments.now s.rows.now clean;
      operations = record { indexed = indexes.operations; ranged = ranged_operations s.anonymous s.operations.now s.fragments.now s.rows.now clean };
      fragments = record { indexed = indexes.fragments; ranged = ranged_fragments s.anonymous s.operations.now s.fragments.now s.rows.now clean };
    }

-- A walk over the tables of a finished document is one over the kept fields that the operation reaches.
use Rattle.std.proofs.Common.{◌≡◌, ℕ, zero, suc, Bool, ◌↔◌, List, [], ◌∷◌, length, slice_index, Some, None, Ok, Err, sym, ap, ◌∙◌, subst, arith}
use Rattle.std.proofs.lemmas.List.{length-map}
use Rattle.std.proofs.lemmas.Option.{get_or_from_slice_get, slice_get_within, slice_get-get_or}
use Rattle.stored_tables.specs.declared.definition.StoredDefinition.{StoredDefinition}
use Rattle.stored_tables.specs.Layout.{those_of, latest}
use Rattle.stored_tables.specs.Verdict.{no_stored_definition}
use Rattle.building_rules.specs.Definitions.{Kept}
use Rattle.building_rules.specs.Rules.{anonymous_role, named_role}
use Rattle.building_rules.specs.Bounds.{rows_kept}
use Rattle.finished_rules.specs.Numbers.{numbers, EntryOf}
use Rattle.finished_rules.specs.Reaches.{Reaches as KeptReaches}
use Rattle.finished_rules.specs.ReachesInTables.{Reaches}
use Rattle.finished_rules.proofs.Entries.{place_of, table_places}
use Rattle.finished_rules.proofs.Reached.{tables_reach}
use Rattle.finished_tables.specs.declared.indexed.IndexedDocument.{IndexedDocument}
use Rattle.walking.specs.declared.fault.WalkFault.{WalkFault}
use Rattle.walking.specs.declared.judge.Lengths.{Lengths}
use Rattle.walking.specs.Refusals.{short_for, too_short, operation_at, Refused, short, faulty, unfit, absent}
use Rattle.walking.specs.Answers.{FieldsOf}
use Rattle.builder.specs.Finished.{IsFinished}
use Rattle.builder.proofs.Kepts.{many_rows}
use Rattle.executable.specs.Walking.{walk_fault, IsNumbered, anonymous, named, short_for_kept, KeptRefused, ListsReached}

-- there is a latest of a list that is not empty
never_none : (s : StoredDefinition) (ds : List StoredDefinition) → latest (Some s) ds ≡ None → ⊥
never_none s [] is = grind (arith, is)
never_none s (d ∷ ds) is = never_none d ds is

none_latest : (ds : List StoredDefinition) → latest None ds ≡ None → length ds ≡ 0
none_latest [] is = omega arith
none_latest (d ∷ ds) is = absurd (never_none d ds is)

-- in tables that hold what is kept
module _ (ks : List Kept) (x : IndexedDocument) (v : IsFinished ks x) where
  many_operations : length x.stored.operations.now ≡ length (numbers named_role ks)
  many_operations = ap length v.holds.operations ∙ ap length ((table_places ks x.stored v.holds).numbered named_role).entries ∙ length-map (numbers named_role ks) _

  -- the number of an operation that is stored, and what it reaches
  record Found (operation : ℕ) (s : StoredDefinition) : Type 0 where
    number : ℕ
    numbered : IsNumbered ks operation number
    reaches : (p : ℕ) → Reaches x.stored s p ↔ KeptReaches ks number p

  found : (operation : ℕ) (s : StoredDefinition) → operation_at x.stored operation ≡ Some s → Found operation s
  found zero s there =
      let at = (table_places ks x.stored v.holds).anonymous s there in
      record { number = at.0; numbered = anonymous at.0 at.1.there at.1.role; reaches = tables_reach ks x.stored v.holds anonymous_role s at.0 at.1 }
  found (suc i) s there =
      let low = slice_get_within x.stored.operations.now i s there in
      let is = get_or_from_slice_get x.stored.operations.now i s no_stored_definition there in
      let long = many_operations in
      let n = slice_index (numbers named_role ks) i in
      let at = subst (λ (d : StoredDefinition). EntryOf named_role ks d n) is ((table_places ks x.stored v.holds).operations i low) in
      record { number = n; numbered = named i (omega (arith, low, long)); reaches = tables_reach ks x.stored v.holds named_role s n at }

  -- where no operation is stored, none is kept at the place
  missing : (operation number : ℕ) → operation_at x.stored operation ≡ None → IsNumbered ks operation number → ⊥
  missing _ _ none (anonymous n low role) =
      let at = place_of anonymous_role ks n low role in
      let long = none_latest (those_of anonymous_role 0 ks) (sym v.holds.anonymous ∙ none) in
      let inside = at.1 in
      omega (arith, inside, long)
  missing _ _ none (named i low) =
      let long = many_operations in
      let there = slice_get-get_or x.stored.operations.now i no_stored_definition (omega (arith, low, long)) in
      grind (arith, there, none)

  module _ (operation : ℕ) (lent : Lengths) (written : List ℕ → Type 0) where
    -- what is too short for the tables is so for what is kept
    kept_short : (b : Bool) → too_short x.stored lent ≡ b → short_for_kept ks lent ≡ b
    kept_short b is =
        ap (λ (n : ℕ). short_for n (rows_kept ks) lent) (sym (ap length v.holds.fragments))
        ∙ ap (λ (n : ℕ). short_for (length x.stored.fragments.now) n lent) (sym (ap length v.holds.rows ∙ many_rows 0 ks))
        ∙ is

    pub fields_reached : (n : ℕ) → FieldsOf x operation lent written n → ListsReached ks operation lent written (Ok n)
    fields_reached n of =
        let at = found operation of.definition of.accepted.there in (
          kept_short _ of.accepted.long,
          record {
            number = at.number;
            numbered = at.numbered;
            places = of.places;
            counted = of.counted;
            listed = of.listed;
            once = of.lists.once;
            exactly = λ p. (λ among. (at.reaches p).0 (of.lists.sound p among), λ reached. of.lists.whole p ((at.reaches p).1 reached));
            ordered = record { tables = x.stored; holds = v.holds; definition = of.definition; there = of.accepted.there; lists = of.lists };
          },
        )

    pub fields_refused : (f : WalkFault) → Refused x operation lent f → KeptRefused ks operation lent (walk_fault f)
    fields_refused _ (short is) = kept_short _ is
    fields_refused _ (faulty f long is) = absurd (grind (arith, is, v.clean))
    fields_refused _ (unfit long clean never) = absurd (never v.indexes)
    fields_refused _ (absent long clean indexed none) = (kept_short _ long, λ number at. missing operation number none at)

-- Definitions that are taken in behind others that a fresh start took in; and that what is held then keeps the limits.
use Rattle.std.proofs.Common.{◌≡◌, ◌+◌, false, List, ◌++◌, length, drop, None, Option, sym, refl, ap, ◌∙◌, subst, arith}
use Rattle.std.proofs.lemmas.List.{drop_at}
use Rattle.schema.specs.Meaning.{Meaning}
use Rattle.selection_rules.specs.Errors.{error_rows, keys_in}
use Rattle.building_rules.specs.Definitions.{Accepted, State, kept_from, errors_from, state_after, kept_in, errors_in}
use Rattle.building_rules.specs.Bounds.{needs_for}
use Rattle.building_rules.proofs.Fits.{builds_fit}
use Rattle.stored_tables.specs.declared.definition.StoredDefinition.{StoredDefinition}
use Rattle.stored_tables.specs.Layout.{rows_of, operations_of, fragments_of, anonymous_of}
use Rattle.builder.specs.Filling.{put, output, filled_to}
use Rattle.builder.specs.Holding.{Held, state_of, taken_in}
use Rattle.builder.specs.Space.{Space}
use Rattle.builder.specs.Certificate.{IsFresh, Within}
use Rattle.builder.proofs.Outputs.{same_output}
use Rattle.builder.proofs.Kepts.{same_held, Fit, Room, entered_long}
use Rattle.builder.proofs.States.{taken_two}
use Rattle.builder.proofs.Spaces.{grown}
use Rattle.builder.proofs.Readings.{fresh_state, from_front, counts}

-- what is put twice at the front is put once
put_again : {X : Type 0} (xs ys : List X) → put (put xs 0 ys) 0 ys ≡ put xs 0 ys
put_again xs ys = ap (λ (l : List _). ys ++ l) (drop_at ys (drop (0 + length ys) xs) (0 + length ys) (omega arith))

-- a fresh start over the tables of rows, errors and path keys as they are filled
abbrev pub restarted : Held → Held → Held
restarted start h =
    record {
      operations = start.operations;
      fragments = start.fragments;
      output = output h.output.rows h.output.errors h.output.path_keys (filled_to 0 0 0);
      anonymous = None;
      multiple = false;
    }

module _ (m : Meaning) (start h : Held) (ds : List Accepted) (is : IsFresh start) (holds : h ≡ taken_in m start ds) where
  pub again : IsFresh (restarted start h)
  again = record { operations = is.operations; fragments = is.fragments; filled = refl; anonymous = refl; multiple = refl }

  -- what is held comes out of that start too
  restart : h ≡ taken_in m (restarted start h) ds
  restart =
      let ks = kept_in m ds in
      let es = errors_in m ds in
      let whole = from_front m start h ds is holds in
      let r = restarted start h in
      whole
      ∙ same_held refl refl
      (same_output
      (sym (put_again start.output.rows (rows_of 0 ks)) ∙ ap (λ (x : Held). put x.output.rows 0 (rows_of 0 ks)) (sym whole))
      (sym (put_again start.output.errors (error_rows 0 es)) ∙ ap (λ (x : Held). put x.output.errors 0 (error_rows 0 es)) (sym whole))
      (sym (put_again start.output.path_keys (keys_in es)) ∙ ap (λ (x : Held). put x.output.path_keys 0 (keys_in es)) (sym whole))
      refl refl refl)
      (ap (λ (a : Option StoredDefinition). anonymous_of a 0 ks) is.anonymous) refl
      ∙ sym (from_front m r (taken_in m r ds) ds again refl)

  -- other definitions behind them
  pub go_on : Within h → (new : List Accepted) → taken_in m h new ≡ taken_in m (restarted start h) (ds ++ new)
  go_on within new =
      let ks = kept_in m ds in
      let r = restarted start h in
      let whole = from_front m start h ds is holds in
      let many = counts m start h ds is holds in
      let a = entered_long start.operations (operations_of 0 ks) in
      let b = entered_long start.fragments (fragments_of 0 ks) in
      let c = ap (λ (x : Held). length x.operations.entries) whole in
      let e = ap (λ (x : Held). length x.fragments.entries) whole in
      let room : Room r ks =
      record {
        operations = omega (arith, many.operations, within.operations_fit, is.operations);
        fragments = omega (arith, many.fragments, within.fragments_fit, is.fragments);
      }
      in
      let fit : Fit r ks (errors_in m ds) =
      record {
        rows = omega (arith, many.rows, within.rows_fit);
        errors = omega (arith, many.errors, within.errors_fit);
        keys = omega (arith, many.path_keys, within.keys_fit);
      }
      in
      let state = sym (fresh_state r again) in
      ap (λ (x : Held). taken_in m x new) restart
      ∙ taken_two m r ds new (subst (λ (s : State). Room r (kept_from m s ds)) state room)
      (subst (λ (s : State). Fit r (kept_from m s ds) (errors_from m s ds)) state fit)

-- where there is space for definitions, what is held with them keeps the limits
pub within_after : (m : Meaning) (h : Held) (ds : List Accepted) → Space h (needs_for ds) → Within (taken_in m h ds)
within_after m h ds space =
    let s = state_of h in
    let g = grown h (kept_from m s ds) (errors_from m s ds) (state_after m s ds).multiple (needs_for ds) space (builds_fit m s ds) in
    record {
      operations_fit = omega (arith, space.operations_fit, g.operations, g.operations_long);
      operations_few = omega (arith, space.operations_few, g.operations);
      fragments_fit = omega (arith, space.fragments_fit, g.fragments, g.fragments_long);
      fragments_few = omega (arith, space.fragments_few, g.fragments);
      rows_fit = omega (arith, space.rows_fit, g.rows, g.rows_long);
      rows_few = omega (arith, space.rows_few, g.rows);
      errors_fit = omega (arith, space.errors_fit, g.errors, g.errors_long);
      errors_few = omega (arith, space.errors_few, g.errors);
      keys_fit = omega (arith, space.keys_fit, g.path_keys, g.keys_long);
      keys_few = omega (arith, space.keys_few, g.path_keys);
    }

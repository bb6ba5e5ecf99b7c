-- A schema that is not closed can pass over an error; the open schema is closed, and the rules are neither always kept in it
-- nor never.
use Rattle.std.proofs.Common.{◌≡◌, ℕ, Bool, true, false, cond, eqb, Ok, Err, Result, refl, arith}
use Rattle.std.proofs.lemmas.Bool.{false≢true}
use Rattle.layout.specs.Forest.{none}
use Rattle.schema.specs.declared.answers.FieldDefinition.{FieldDefinition}
use Rattle.schema.specs.declared.answers.FieldLookupError.{FieldLookupError}
use Rattle.schema.specs.declared.answers.FieldLookupError.TheVariants.{NoSuchType}
use Rattle.schema.specs.Meta.{defined}
use Rattle.schema.specs.Meaning.{Closed}
use Rattle.schema.specs.Open.{open_meaning}
use Rattle.schema.specs.Laws.{open_lawful}
use Rattle.building_rules.specs.Rules.{of_root, of_field, Stands}
use Rattle.building_rules.specs.Needed.{nested, twice, ClosedIsNeeded, SomeAreValid}
use Rattle.building_rules.proofs.Rows.{no_cons}
use Rattle.building_rules.proofs.Joined.{no_errors_exactly_when_valid}

answered : (b : Bool) → b ≡ true → cond {A = Result FieldDefinition FieldLookupError} b (Ok (defined 1 99)) (Err NoSuchType) ≡ Err NoSuchType → ⊥
answered true e f = let z : ◌≡◌ {A = ℕ} 0 1 = cc in omega arith
answered false e f = false≢true e

pub closed_is_needed : ClosedIsNeeded
closed_is_needed =
    record {
      lawful = record { unknown = λ t f e. rw e; present = λ t f e. answered (eqb t 1) e; sorted = λ t e. refl };
      listed = refl;
      invalid = λ v.
          let x = v.field_selections.0 99 _ none (record { outer = 1; around = of_root 1 refl refl; stands = Stands.deeper 99 (of_field (defined 1 99) refl refl) Stands.here }) refl in
          let e = x.1 in
          let z : ◌≡◌ {A = ℕ} 0 1 = cc in omega arith;
    }

closed : Closed open_meaning
closed = record { roots = λ operation t e. refl; inners = λ t f x e. refl }

pub some_are_valid : SomeAreValid
some_are_valid =
    record {
      lawful = open_lawful;
      closed = closed;
      valid = (no_errors_exactly_when_valid open_meaning open_lawful closed nested).0 refl;
      invalid = λ v. no_cons _ _ ((no_errors_exactly_when_valid open_meaning open_lawful closed twice).1 v);
    }

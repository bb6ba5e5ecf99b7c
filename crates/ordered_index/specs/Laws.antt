-- The two types of keys keep the law of keys.
use Rattle.std.proofs.Common.{◌≡◌, ◌+◌, ◌*◌, ◌/◌, ◌%◌, ◌^◌, true, eqb, sym, refl, ap, ◌∙◌}
use Rattle.std.proofs.lemmas.Bool.{eq-eqb, eqb-true, and_parts, and_from}
use Rattle.ordered_index.specs.declared.keys.TypeField.{TypeField}
use Rattle.ordered_index.specs.Law.{Lawful}
use Rattle.ordered_index.specs.Keys.{same_name, name_hash, same_field, field_hash}

pub name_lawful : Lawful same_name name_hash
name_lawful = record {
  itself = λ x. eq-eqb x x refl;
  back = λ x y same. eq-eqb y x (sym (eqb-true x y same));
  through = λ x y z first second. eq-eqb x z (eqb-true x y first ∙ eqb-true y z second);
  hashes = λ x y same. ap name_hash (eqb-true x y same);
}

parts : (x y : TypeField) → same_field x y ≡ true → (x.owner ≡ y.owner) × (x.field ≡ y.field)
parts x y same =
    let both = and_parts (eqb x.owner y.owner) (eqb x.field y.field) same in
    (eqb-true x.owner y.owner both.0, eqb-true x.field y.field both.1)

joined : (x y : TypeField) → x.owner ≡ y.owner → x.field ≡ y.field → same_field x y ≡ true
joined x y owners fields = and_from _ _ (eq-eqb x.owner y.owner owners) (eq-eqb x.field y.field fields)

pub field_lawful : Lawful same_field field_hash
field_lawful = record {
  itself = λ x. joined x x refl refl;
  back = λ x y same. joined y x (sym (parts x y same).0) (sym (parts x y same).1);
  through = λ x y z first second. joined x z ((parts x y first).0 ∙ (parts y z second).0) ((parts x y first).1 ∙ (parts y z second).1);
  hashes = λ x y same.
      ap (λ owner. ((owner * 2654435769) % 2 ^ 32 + (x.field * 2246822507) % 2 ^ 32) % 2 ^ 32 / 2 ^ 16) (parts x y same).0
      ∙ ap (λ field. ((y.owner * 2654435769) % 2 ^ 32 + (field * 2246822507) % 2 ^ 32) % 2 ^ 32 / 2 ^ 16) (parts x y same).1;
}

-- A name that is not taken is entered where there is room.
use Rattle.std.proofs.Common.{◌≡◌, ℕ, ◌<◌, true, false, length, Some, None, ap, ◌∙◌, subst, arith, length-set}
use Rattle.std.proofs.lemmas.Bool.{lt-ltb, and_from, both_ways, cond-true}
use Rattle.ordered_index.specs.declared.probe.Probed.{Probed}
use Rattle.ordered_index.specs.declared.probe.Probed.TheVariants.{Found, Vacant, Round}
use Rattle.ordered_index.specs.declared.index.Entered.{Entered}
use Rattle.ordered_index.specs.declared.index.Entered.TheVariants as entered-as
use Rattle.ordered_index.specs.Keys.{same_name, name_hash}
use Rattle.ordered_index.specs.Slots.{limit}
use Rattle.ordered_index.specs.Sound.{Sound, Located}
use Rattle.ordered_index.specs.Entering.{insert_room, entered as entering, present}
use Rattle.building_rules.specs.Definitions.{taken_at}
use Rattle.stored_tables.specs.declared.definition.StoredDefinition.{StoredDefinition}
use Rattle.builder.specs.Holding.{Table, names_in, taken_by, entered}
use Rattle.builder.specs.Storing.{Indexed}
use Rattle.builder.proofs.Taken.{found}

module _ (t : Table) (name : ℕ) (fits : t.count < length t.entries) (few : t.count < limit t.slots) (free : taken_at name (taken_by t.entries t.count) ≡ None) where
  room : insert_room t.entries t.count t.slots ≡ true
  room = and_from _ _ (lt-ltb t.count (length t.entries) fits) (lt-ltb t.count (limit t.slots) few)

  adds : (p : Probed) (r : Entered) → r ≡ entering p (insert_room t.entries t.count t.slots) t.count
      → Located same_name (names_in t) name (present r) → (r ≡ entered-as.Full → insert_room t.entries t.count t.slots ≡ false) → r ≡ entered-as.Added t.count
  adds (Found n) r is located full =
      let place : Located same_name (names_in t) name (Some n) = subst (λ (x : Entered). Located same_name (names_in t) name (present x)) is located in
      let taken = found t.entries t.count (omega arith) name n place in
      let z : ◌≡◌ {A = ℕ} 0 1 = cc in
      absurd (omega arith)
  adds (Vacant s) r is located full = is ∙ cond-true _ _ _ room
  adds Round r is located full = absurd (both_ways _ (full is) room)

  pub added : (p : Probed) (r : Entered) → r ≡ entering p (insert_room t.entries t.count t.slots) t.count
      → Located same_name (names_in t) name (present r) → (r ≡ entered-as.Full → insert_room t.entries t.count t.slots ≡ false) → r ≡ entered-as.Added t.count
  added p r is located full = adds p r is located full

-- a table with one definition more is indexed again
pub indexed_more : (t more : Table) (d : StoredDefinition) → more ≡ entered t d → t.count < length t.entries → length more.slots ≡ 512
    → Sound same_name name_hash (names_in more) more.slots → Indexed more
indexed_more t more d is fits long sound =
    let count = ap (λ (x : Table). x.count) is in
    let entries = ap (λ (x : Table). length x.entries) is ∙ length-set t.entries t.count d in
    record { fits = omega arith; slots = long; sound = sound }

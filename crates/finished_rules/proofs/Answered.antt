-- Kept rows have the places and the set types that the schema answers: where the handed members agree, so do these.
use Rattle.std.proofs.Common.{◌≡◌, ℕ, true, List, [], ◌∷◌, Ok, sym, refl, ap, ◌∙◌, subst}
use Rattle.std.specs.List.{AllByRecursion}
use Rattle.std.proofs.ByRecursion.{All-append}
use Rattle.std.proofs.lemmas.Bool.{false≢true}
use Rattle.layout.specs.Forest.{Forest, none, row}
use Rattle.document.specs.Rows.{Selection, Head}
use Rattle.schema.specs.declared.answers.FieldDefinition.{FieldDefinition}
use Rattle.schema.specs.Meaning.{Meaning}
use Rattle.selection_rules.specs.declared.settling.Settled.{Settled}
use Rattle.selection_rules.specs.Stored.{Form, form_of, Stored}
use Rattle.selection_rules.specs.Sets.{some_row, settled_in, keep, build}
use Rattle.building_rules.specs.Definitions.{Accepted, Role, anonymous_operation, named_operation, fragment, type_system, role_of, operation_of, State, fresh, Outcome, step, kept_from}
use Rattle.building_rules.specs.Rules.{Inside, of_field, of_condition, of_around, of_spread, Around, operation_role, fragment_role}
use Rattle.building_rules.specs.Keeping.{StoredAs}
use Rattle.building_rules.proofs.Settling.{field_spread, field_inline, spread_inline, View, stays, drops, faults, view}
use Rattle.building_rules.proofs.Steps.{Stores, as_anonymous, as_named, as_fragment, Becomes, becomes}
use Rattle.finished_rules.specs.Same.{Alike, SameSelection, SameHead}
use Rattle.finished_rules.specs.SameTables.{SameStored}
use Rattle.finished_rules.specs.Answered.{Answered, RowsFollow, KeptAsAnswered, KeptIsAnswered, AnswersFollow}

-- What is built is as the schema answers

module _ (m : Meaning) where
  row_answered : (around : ℕ) (s : Selection) (below after : Forest Selection) (w : Settled) → View m around s below (form_of s) w
      → ((inner : ℕ) → Answered m inner (build m inner below)) → Answered m around (build m around after)
      → Answered m around (keep w s (λ inner. build m inner below) (build m around after))
  row_answered around s below after w (stays place inner fit inside one_inside shape one-shape) lower next =
      (shape, (inner, inside, lower inner), next)
  row_answered around s below after w (drops e unfit) lower next = next
  row_answered around s below after w (faults fault unfit) lower next = next

  pub build_answered : (around : ℕ) (f : Forest Selection) → Answered m around (build m around f)
  build_answered around none = tt
  build_answered around (row s below after) =
      row_answered around s below after (settled_in m around s (some_row below)) (view m around s below) (λ inner. build_answered inner below) (build_answered around after)

  -- and so is what is kept

  around_head : (s : State) (d : Accepted) (around : ℕ) → Stores m s d around → Around m d.head around
  around_head s d n (as_anonymous around w a b r) = Around.of_root around (rw w refl) r
  around_head s d n (as_named around w f r) = Around.of_root around (rw w refl) r
  around_head s d n (as_fragment w f k) = Around.of_fragment (rw w refl)

  one_answered : (s : State) (d : Accepted) (o : Outcome) → Becomes m s d o → AllByRecursion (KeptAsAnswered m) o.kept
  one_answered s d o (Becomes.stays around h k e) =
      rw k (record { around = around_head s d around h; rows = build_answered around d.selected }, tt)
  one_answered s d o (Becomes.passes k e never) = rw k tt

  all_answered : (s : State) (ds : List Accepted) → AllByRecursion (KeptAsAnswered m) (kept_from m s ds)
  all_answered s [] = tt
  all_answered s (d ∷ ds) =
      All-append (KeptAsAnswered m) (step m s d).kept (kept_from m (step m s d).next ds) (one_answered s d (step m s d) (becomes m s d)) (all_answered (step m s d).next ds)

pub kept_is_answered : KeptIsAnswered
kept_is_answered m ds = all_answered m fresh ds

-- One answer for selections that are the same

same_form : (s t : Selection) → SameSelection s t → form_of s ≡ form_of t
same_form s t same = rw same.kind refl

module _ (m : Meaning) (around : ℕ) (s t : Selection) (same : SameSelection s t) where
  same_field : (x y : FieldDefinition) → m.field around s.name ≡ Ok x → m.field around t.name ≡ Ok y → x ≡ y
  same_field x y e f = let names = same.name in cc

  to_first : {v : Form} → form_of t ≡ v → form_of s ≡ v
  to_first g = same_form s t same ∙ g

  one_inside : (i j : ℕ) → Inside m around s i → Inside m around t j → i ≡ j
  one_inside i j (of_field x f e) (of_field y g h) = ap (λ z. z.inner) (same_field x y e h)
  one_inside i j (of_field x f e) (of_condition g n) = field_inline f (to_first g)
  one_inside i j (of_field x f e) (of_around g n) = field_inline f (to_first g)
  one_inside i j (of_field x f e) (of_spread g) = field_spread f (to_first g)
  one_inside i j (of_condition f n) (of_field y g h) = field_inline (to_first g) f
  one_inside i j (of_condition f n) (of_condition g k) = same.condition
  one_inside i j (of_condition f n) (of_around g k) = absurd (n (same.condition ∙ k))
  one_inside i j (of_condition f n) (of_spread g) = spread_inline (to_first g) f
  one_inside i j (of_around f n) (of_field y g h) = field_inline (to_first g) f
  one_inside i j (of_around f n) (of_condition g k) = absurd (k (sym same.condition ∙ n))
  one_inside i j (of_around f n) (of_around g k) = refl
  one_inside i j (of_around f n) (of_spread g) = refl
  one_inside i j (of_spread f) (of_field y g h) = field_spread (to_first g) f
  one_inside i j (of_spread f) (of_condition g k) = spread_inline f (to_first g)
  one_inside i j (of_spread f) (of_around g k) = refl
  one_inside i j (of_spread f) (of_spread g) = refl

  one_stored : (x y : Stored) → StoredAs m around s x → StoredAs m around t y → (x.place ≡ y.place) × (x.set_type ≡ y.set_type)
  one_stored x y (StoredAs.of_field z f e) (StoredAs.of_field w g h) =
      (ap (λ u. u.place) (same_field z w e h), ap (λ u. u.inner) (same_field z w e h))
  one_stored x y (StoredAs.of_field z f e) (StoredAs.of_condition g n) = field_inline f (to_first g)
  one_stored x y (StoredAs.of_field z f e) (StoredAs.of_around g n) = field_inline f (to_first g)
  one_stored x y (StoredAs.of_field z f e) (StoredAs.of_spread g) = field_spread f (to_first g)
  one_stored x y (StoredAs.of_condition f n) (StoredAs.of_field w g h) = field_inline (to_first g) f
  one_stored x y (StoredAs.of_condition f n) (StoredAs.of_condition g k) = (refl, same.condition)
  one_stored x y (StoredAs.of_condition f n) (StoredAs.of_around g k) = absurd (n (same.condition ∙ k))
  one_stored x y (StoredAs.of_condition f n) (StoredAs.of_spread g) = spread_inline (to_first g) f
  one_stored x y (StoredAs.of_around f n) (StoredAs.of_field w g h) = field_inline (to_first g) f
  one_stored x y (StoredAs.of_around f n) (StoredAs.of_condition g k) = absurd (k (sym same.condition ∙ n))
  one_stored x y (StoredAs.of_around f n) (StoredAs.of_around g k) = (refl, refl)
  one_stored x y (StoredAs.of_around f n) (StoredAs.of_spread g) = spread_inline (to_first g) f
  one_stored x y (StoredAs.of_spread f) (StoredAs.of_field w g h) = field_spread (to_first g) f
  one_stored x y (StoredAs.of_spread f) (StoredAs.of_condition g k) = spread_inline f (to_first g)
  one_stored x y (StoredAs.of_spread f) (StoredAs.of_around g k) = spread_inline f (to_first g)
  one_stored x y (StoredAs.of_spread f) (StoredAs.of_spread g) = (refl, refl)

-- rows in one type
abbrev Handed : Stored → Stored → Type 0
Handed x y = SameSelection x.selection y.selection

module _ (m : Meaning) where
  rows_stored : (around : ℕ) (f g : Forest Stored) → Answered m around f → Answered m around g → Alike Handed f g → Alike SameStored f g
  rows_stored around none none a b same = tt
  rows_stored around none (row y under beyond) a b same = absurd same
  rows_stored around (row x below after) none a b same = absurd same
  rows_stored around (row x below after) (row y under beyond) a b same =
      let two = one_stored m around x.selection y.selection same.0 x y a.0 b.0 in
      let inner : b.1.0 ≡ a.1.0 = sym (one_inside m around x.selection y.selection same.0 a.1.0 b.1.0 a.1.1 b.1.1) in (
        record { selection = same.0; place = two.0; set_type = two.1 },
        rows_stored a.1.0 below under a.1.2 (subst (λ (n : ℕ). Answered m n under) inner b.1.2) same.1,
        rows_stored around after beyond a.2 b.2 same.2,
      )

rows_handed : (f g : Forest Stored) → Alike SameStored f g → Alike Handed f g
rows_handed none none same = tt
rows_handed none (row y under beyond) same = absurd same
rows_handed (row x below after) none same = absurd same
rows_handed (row x below after) (row y under beyond) same =
    (same.0.selection, rows_handed below under same.1, rows_handed after beyond same.2)

pub rows_follow : RowsFollow
rows_follow m around f g a b = (rows_stored m around f g a b, rows_handed f g)

-- heads that are the same have one role, one operation type and one condition
pub same_role : (h k : Head) → SameHead h k → role_of h ≡ role_of k
same_role h k same = rw (same.kind, same.name) refl

same_operation : (h k : Head) → SameHead h k → operation_of h ≡ operation_of k
same_operation h k same = rw same.operation_type refl

one_role : (r : Role) {A : Type 0} → operation_role r ≡ true → fragment_role r ≡ true → A
one_role anonymous_operation e f = absurd (false≢true f)
one_role named_operation e f = absurd (false≢true f)
one_role fragment e f = absurd (false≢true e)
one_role type_system e f = absurd (false≢true e)

one_around : (m : Meaning) (h k : Head) → SameHead h k → (i j : ℕ) → Around m h i → Around m k j → i ≡ j
one_around m h k same i j (Around.of_root t o e) (Around.of_root u p g) = let type = same_operation h k same in cc
one_around m h k same i j (Around.of_root t o e) (Around.of_fragment p) = one_role (role_of h) o (ap fragment_role (same_role h k same) ∙ p)
one_around m h k same i j (Around.of_fragment o) (Around.of_root u p g) = one_role (role_of h) (ap operation_role (same_role h k same) ∙ p) o
one_around m h k same i j (Around.of_fragment o) (Around.of_fragment p) = same.condition

pub answers_follow : AnswersFollow
answers_follow m k j a b = (
  λ same.
      let type = one_around m k.head j.head same.heads k.set_type j.set_type a.around b.around in
      record {
        heads = same.heads;
        set_type = type;
        rows = rows_stored m k.set_type k.rows j.rows a.rows (subst (λ (n : ℕ). Answered m n j.rows) (sym type) b.rows) same.rows;
      },
  λ same. record { heads = same.heads; rows = rows_handed k.rows j.rows same.rows },
)

-- A selection is kept exactly where it is fit, and it is then stored as the schema tells.
use Rattle.std.proofs.Common.{◌≡◌, ℕ, Bool, true, false, cond, eqb, ◌≢◌, Some, None, Ok, Err, Option, Result, sym, refl, ap, ◌∙◌, inl, inr, arith}
use Rattle.std.proofs.lemmas.Bool.{eqb-true, eqb-false, both_ways}
use Rattle.layout.specs.Forest.{Forest, none, row}
use Rattle.document.specs.Rows.{Selection}
use Rattle.schema.specs.declared.answers.TypeKind.{TypeKind}
use Rattle.schema.specs.declared.answers.TypeKind.TheVariants.{Scalar, Object, Interface, Union, Enum, InputObject}
use Rattle.schema.specs.declared.answers.FieldDefinition.{FieldDefinition}
use Rattle.schema.specs.declared.answers.FieldLookupError.{FieldLookupError}
use Rattle.schema.specs.declared.answers.FieldLookupError.TheVariants.{NoSuchType, NoSuchField}
use Rattle.schema.specs.Meaning.{Meaning}
use Rattle.selection_rules.specs.declared.settling.SelectionFault.{SelectionFault}
use Rattle.selection_rules.specs.declared.settling.SelectionFault.TheVariants.{UnknownCondition, OnScalar, OnEnum, UnknownField}
use Rattle.selection_rules.specs.declared.settling.Settled.{Settled}
use Rattle.selection_rules.specs.declared.settling.Settled.TheVariants.{Kept, Dropped, Faulty}
use Rattle.selection_rules.specs.Stored.{Form, field, spread, inline, form_of, Stored, stored, set_type_of}
use Rattle.selection_rules.specs.Settle.{on_kind, found_field, looked_up}
use Rattle.selection_rules.specs.Sets.{some_row, settled_as, settled_in}
use Rattle.building_rules.specs.Rules.{Inside, of_field, of_condition, of_around, of_spread, Leaf}
use Rattle.building_rules.specs.Keeping.{Fit, found, spreads, unconditioned, conditioned, StoredAs}

-- a selection has one form
pub field_spread : {v : Form} {A : Type 0} → v ≡ field → v ≡ spread → A
field_spread e f = absurd (let z : ◌≡◌ {A = ℕ} 0 1 = cc in omega arith)

pub field_inline : {v : Form} {A : Type 0} → v ≡ field → v ≡ inline → A
field_inline e f = absurd (let z : ◌≡◌ {A = ℕ} 0 1 = cc in omega arith)

pub spread_inline : {v : Form} {A : Type 0} → v ≡ spread → v ≡ inline → A
spread_inline e f = absurd (let z : ◌≡◌ {A = ℕ} 0 1 = cc in omega arith)

-- What becomes of a selection, told by whether it is fit. If it is kept, there is one type inside it, and one row that it
-- is stored as.
pub data View (m : Meaning) (around : ℕ) (s : Selection) (below : Forest Selection) (v : Form) : Settled → Type 0 where
  stays : (place inner : ℕ)
      → Fit m around s below
      → Inside m around s inner
      → ((t : ℕ) → Inside m around s t → t ≡ inner)
      → StoredAs m around s (stored s place (set_type_of v inner))
      → ((x : Stored) → StoredAs m around s x → x ≡ stored s place (set_type_of v inner))
      → View m around s below v (Kept place inner)
  drops : m.field around s.name ≡ Err NoSuchType → (Fit m around s below → ⊥) → View m around s below v Dropped
  faults : (fault : SelectionFault) → (Fit m around s below → ⊥) → View m around s below v (Faulty fault)

-- scalars and enums are leaves
abbrev is_leaf : Option TypeKind → Bool
is_leaf None = false
is_leaf (Some Scalar) = true
is_leaf (Some Object) = false
is_leaf (Some Interface) = false
is_leaf (Some Union) = false
is_leaf (Some Enum) = true
is_leaf (Some InputObject) = false

leaf_told : (k : Option TypeKind) → Leaf k → is_leaf k ≡ true
leaf_told k (inl e) = ap is_leaf e
leaf_told k (inr e) = ap is_leaf e

module _ (m : Meaning) (around : ℕ) (s : Selection) where
  -- a field

  one_inside : (x : FieldDefinition) → form_of s ≡ field → m.field around s.name ≡ Ok x → (t : ℕ) → Inside m around s t → t ≡ x.inner
  one_inside x f e t (of_field y g h) = let same : y ≡ x = cc in ap (λ z. z.inner) same
  one_inside x f e t (of_condition g n) = field_inline f g
  one_inside x f e t (of_around g n) = field_inline f g
  one_inside x f e t (of_spread g) = field_spread f g

  one_stored : (x : FieldDefinition) → form_of s ≡ field → m.field around s.name ≡ Ok x → (y : Stored) → StoredAs m around s y → y ≡ stored s x.place x.inner
  one_stored x f e y (StoredAs.of_field z g h) = let same : z ≡ x = cc in ap (λ w. stored s w.place w.inner) same
  one_stored x f e y (StoredAs.of_condition g n) = field_inline f g
  one_stored x f e y (StoredAs.of_around g n) = field_inline f g
  one_stored x f e y (StoredAs.of_spread g) = field_spread f g

  found_stays : (below : Forest Selection) (x : FieldDefinition) → form_of s ≡ field → m.field around s.name ≡ Ok x → (Leaf (m.sort x.inner) → below ≡ none) → View m around s below field (Kept x.place x.inner)
  found_stays below x f e l =
      stays x.place x.inner (found x f e l) (of_field x f e) (one_inside x f e) (StoredAs.of_field x f e) (one_stored x f e)

  -- only a field that is found, and has nothing beneath it if it is a leaf, is fit
  unfit : (below : Forest Selection) → form_of s ≡ field → ((x : FieldDefinition) → m.field around s.name ≡ Ok x → (Leaf (m.sort x.inner) → below ≡ none) → ⊥) → Fit m around s below → ⊥
  unfit below f never (found x g e l) = never x e l
  unfit below f never (spreads g) = field_spread f g
  unfit below f never (unconditioned g n) = field_inline f g
  unfit below f never (conditioned g n k) = field_inline f g

  module _ (x : FieldDefinition) (f : form_of s ≡ field) (e : m.field around s.name ≡ Ok x) (b : Selection) (u v : Forest Selection) where
    under_leaf : Leaf (m.sort x.inner) → Fit m around s (row b u v) → ⊥
    under_leaf leaf =
        unfit (row b u v) f (λ y g l. let same : x ≡ y = cc in let w = l (rw same at leaf) in let z : ◌≡◌ {A = ℕ} 0 1 = cc in omega arith)

    under_other : (k : Option TypeKind) → m.sort x.inner ≡ k → is_leaf k ≡ false → View m around s (row b u v) field (Kept x.place x.inner)
    under_other k g other = found_stays (row b u v) x f e (λ l. absurd (both_ways (is_leaf k) other (ap is_leaf (sym g) ∙ leaf_told (m.sort x.inner) l)))

    kind_view : (k : Option TypeKind) → m.sort x.inner ≡ k → View m around s (row b u v) field (on_kind k x)
    kind_view None g = under_other None g refl
    kind_view (Some Scalar) g = faults (OnScalar x.inner) (under_leaf (inl g))
    kind_view (Some Object) g = under_other (Some Object) g refl
    kind_view (Some Interface) g = under_other (Some Interface) g refl
    kind_view (Some Union) g = under_other (Some Union) g refl
    kind_view (Some Enum) g = faults (OnEnum x.inner) (under_leaf (inr g))
    kind_view (Some InputObject) g = under_other (Some InputObject) g refl

  found_view : (below : Forest Selection) (x : FieldDefinition) → form_of s ≡ field → m.field around s.name ≡ Ok x → View m around s below field (found_field m x (some_row below))
  found_view none x f e = found_stays none x f e (λ _. refl)
  found_view (row b u v) x f e = kind_view x f e b u v (m.sort x.inner) refl

  field_view : (below : Forest Selection) (r : Result FieldDefinition FieldLookupError) → form_of s ≡ field → m.field around s.name ≡ r → View m around s below field (looked_up m (some_row below) r)
  field_view below (Ok x) f e = found_view below x f e
  field_view below (Err NoSuchField) f e = faults UnknownField (unfit below f (λ x g l. let z : ◌≡◌ {A = ℕ} 0 1 = cc in omega arith))
  field_view below (Err NoSuchType) f e = drops e (unfit below f (λ x g l. let z : ◌≡◌ {A = ℕ} 0 1 = cc in omega arith))

  -- a spread

  spread_inside : form_of s ≡ spread → (t : ℕ) → Inside m around s t → t ≡ around
  spread_inside f t (of_field y g h) = field_spread g f
  spread_inside f t (of_condition g n) = spread_inline f g
  spread_inside f t (of_around g n) = refl
  spread_inside f t (of_spread g) = refl

  spread_stored : form_of s ≡ spread → (y : Stored) → StoredAs m around s y → y ≡ stored s 0 0
  spread_stored f y (StoredAs.of_field x g h) = field_spread g f
  spread_stored f y (StoredAs.of_condition g n) = spread_inline f g
  spread_stored f y (StoredAs.of_around g n) = spread_inline f g
  spread_stored f y (StoredAs.of_spread g) = refl

  -- an inline fragment

  around_inside : form_of s ≡ inline → s.condition ≡ 0 → (t : ℕ) → Inside m around s t → t ≡ around
  around_inside f c t (of_field y g h) = field_inline g f
  around_inside f c t (of_condition g n) = absurd (n c)
  around_inside f c t (of_around g n) = refl
  around_inside f c t (of_spread g) = refl

  around_stored : form_of s ≡ inline → s.condition ≡ 0 → (y : Stored) → StoredAs m around s y → y ≡ stored s 0 around
  around_stored f c y (StoredAs.of_field x g h) = field_inline g f
  around_stored f c y (StoredAs.of_condition g n) = absurd (n c)
  around_stored f c y (StoredAs.of_around g n) = refl
  around_stored f c y (StoredAs.of_spread g) = spread_inline g f

  condition_inside : form_of s ≡ inline → s.condition ≢ 0 → (t : ℕ) → Inside m around s t → t ≡ s.condition
  condition_inside f c t (of_field y g h) = field_inline g f
  condition_inside f c t (of_condition g n) = refl
  condition_inside f c t (of_around g n) = absurd (c n)
  condition_inside f c t (of_spread g) = spread_inline g f

  condition_stored : form_of s ≡ inline → s.condition ≢ 0 → (y : Stored) → StoredAs m around s y → y ≡ stored s 0 s.condition
  condition_stored f c y (StoredAs.of_field x g h) = field_inline g f
  condition_stored f c y (StoredAs.of_condition g n) = refl
  condition_stored f c y (StoredAs.of_around g n) = absurd (c n)
  condition_stored f c y (StoredAs.of_spread g) = spread_inline g f

  unknown_unfit : (below : Forest Selection) → form_of s ≡ inline → s.condition ≢ 0 → m.known s.condition ≡ false → Fit m around s below → ⊥
  unknown_unfit below f c k (found x g e l) = field_inline g f
  unknown_unfit below f c k (spreads g) = spread_inline g f
  unknown_unfit below f c k (unconditioned g n) = c n
  unknown_unfit below f c k (conditioned g n h) = both_ways (m.known s.condition) k h

  inline_view : (below : Forest Selection) (b c : Bool) → form_of s ≡ inline → eqb s.condition 0 ≡ b → m.known s.condition ≡ c → View m around s below inline (cond b (Kept 0 around) (cond c (Kept 0 s.condition) (Faulty UnknownCondition)))
  inline_view below true c f e g =
      let zero : s.condition ≡ 0 = eqb-true _ _ e in
      stays 0 around (unconditioned f zero) (of_around f zero) (around_inside f zero) (StoredAs.of_around f zero) (around_stored f zero)
  inline_view below false true f e g =
      let some : s.condition ≢ 0 = eqb-false _ _ e in
      stays 0 s.condition (conditioned f some g) (of_condition f some) (condition_inside f some) (StoredAs.of_condition f some) (condition_stored f some)
  inline_view below false false f e g = faults UnknownCondition (unknown_unfit below f (eqb-false _ _ e) g)

  -- each form

  view_of_form : (below : Forest Selection) (v : Form) → form_of s ≡ v → View m around s below v (settled_as v m around s (some_row below))
  view_of_form below field f = field_view below (m.field around s.name) f refl
  view_of_form below spread f = stays 0 around (spreads f) (of_spread f) (spread_inside f) (StoredAs.of_spread f) (spread_stored f)
  view_of_form below inline f = inline_view below (eqb s.condition 0) (m.known s.condition) f refl refl

  pub view : (below : Forest Selection) → View m around s below (form_of s) (settled_in m around s (some_row below))
  view below = view_of_form below (form_of s) refl

-- Which selections of any document, valid or not, are kept, told without building it.
use Rattle.std.specs.Prelude.{◌≡◌, ℕ, true, ◌≢◌, ◌↔◌, Ok}
use Rattle.layout.specs.Forest.{Forest, none, row}
use Rattle.document.specs.Rows.{Selection}
use Rattle.schema.specs.declared.answers.FieldDefinition.{FieldDefinition}
use Rattle.schema.specs.Meaning.{Meaning}
use Rattle.selection_rules.specs.Stored.{field, spread, inline, form_of, Stored, stored}
use Rattle.selection_rules.specs.Sets.{build}
use Rattle.building_rules.specs.Rules.{Inside, Occurs, Leaf}
use Rattle.building_rules.specs.Whole.{handed}

-- in the type t, the selection s, with the selections `below` beneath it, is fit to be kept: a field that is found (section
-- 5.3.1), with nothing beneath it if its type is a scalar or an enum (5.3.3); a spread; an inline fragment without a
-- condition, or on a type that is known (5.5.1.2)
pub data Fit (m : Meaning) (t : ℕ) (s : Selection) (below : Forest Selection) : Type 0 where
  found : (x : FieldDefinition) → form_of s ≡ field → m.field t s.name ≡ Ok x → (Leaf (m.sort x.inner) → below ≡ none) → Fit m t s below
  spreads : form_of s ≡ spread → Fit m t s below
  unconditioned : form_of s ≡ inline → s.condition ≡ 0 → Fit m t s below
  conditioned : form_of s ≡ inline → s.condition ≢ 0 → m.known s.condition ≡ true → Fit m t s below

-- among the selections f in the type `around`, and anywhere beneath them, the selection s, in the type t, with `below`
-- handed in beneath it, is kept: it is fit, and so is each selection that it stands beneath
pub data Keeps (m : Meaning) : ℕ → Forest Selection → ℕ → Selection → Forest Selection → Type 0 where
  here : {around : ℕ} {s : Selection} {below after : Forest Selection} → Fit m around s below → Keeps m around (row s below after) around s below
  later : {around : ℕ} {b : Selection} {under after : Forest Selection} {t : ℕ} {s : Selection} {below : Forest Selection}
      → Keeps m around after t s below → Keeps m around (row b under after) t s below
  deeper : {around : ℕ} {b : Selection} {under after : Forest Selection} {t : ℕ} {s : Selection} {below : Forest Selection} (inner : ℕ)
      → Fit m around b under → Inside m around b inner → Keeps m inner under t s below → Keeps m around (row b under after) t s below

-- how a selection in the type t is stored: a field with the place of its definition and its inner type, a spread with
-- neither, an inline fragment with the type of its set
pub data StoredAs (m : Meaning) (t : ℕ) (s : Selection) : Stored → Type 0 where
  of_field : (x : FieldDefinition) → form_of s ≡ field → m.field t s.name ≡ Ok x → StoredAs m t s (stored s x.place x.inner)
  of_spread : form_of s ≡ spread → StoredAs m t s (stored s 0 0)
  of_condition : form_of s ≡ inline → s.condition ≢ 0 → StoredAs m t s (stored s 0 s.condition)
  of_around : form_of s ≡ inline → s.condition ≡ 0 → StoredAs m t s (stored s 0 t)

-- a selection that is kept, and that is stored as x
pub record KeptAs (m : Meaning) (around : ℕ) (f : Forest Selection) (x : Stored) : Type 0 where
  pub type : ℕ
  pub selection : Selection
  pub below : Forest Selection
  pub keeps : Keeps m around f type selection below
  pub shape : StoredAs m type selection x

-- what is stored is exactly what is kept
abbrev pub KeptExactly : Type 0
KeptExactly = (m : Meaning) (around : ℕ) (f : Forest Selection) (x : Stored) → Occurs x (build m around f) ↔ KeptAs m around f x

-- g is f without some of its rows, each left out with all that stands beneath it
pub data Part {A : Type 0} : Forest A → Forest A → Type 0 where
  nothing : Part none none
  kept : {a : A} {below after : Forest A} {under beyond : Forest A} → Part under below → Part beyond after → Part (row a under beyond) (row a below after)
  left_out : {a : A} {below after : Forest A} {g : Forest A} → Part g after → Part g (row a below after)

-- what is stored stands in the order and under the selections in which it was handed in
abbrev pub KeptInOrder : Type 0
KeptInOrder = (m : Meaning) (around : ℕ) (f : Forest Selection) → Part (handed (build m around f)) f

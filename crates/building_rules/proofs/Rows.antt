-- Selections list no error exactly when they keep the rules on selections, and then all of them are kept.
use Rattle.std.proofs.Common.{◌≡◌, ℕ, Bool, true, false, eqb, ◌≢◌, List, [], ◌∷◌, ◌++◌, Ok, refl, ap, ◌∙◌, arith}
use Rattle.std.proofs.lemmas.Bool.{eqb-true, eqb-false}
use Rattle.layout.specs.Forest.{Forest, none, row}
use Rattle.document.specs.Rows.{Selection}
use Rattle.schema.specs.declared.answers.FieldDefinition.{FieldDefinition}
use Rattle.schema.specs.Meaning.{Meaning, Closed}
use Rattle.schema.specs.Law.{Lawful}
use Rattle.selection_rules.specs.declared.settling.Settled.{Settled}
use Rattle.selection_rules.specs.declared.settling.Settled.TheVariants.{Kept}
use Rattle.selection_rules.specs.Stored.{Form, field, spread, inline, form_of}
use Rattle.selection_rules.specs.Sets.{settled_in}
use Rattle.selection_rules.specs.Errors.{Path, Error}
use Rattle.selection_rules.specs.Sets.{path_to, some_row, listed, errors, keep, build}
use Rattle.building_rules.specs.Rules.{Inside, of_field, of_condition, of_around, of_spread, Stands, Occurs, Leaf}
use Rattle.building_rules.specs.Whole.{handed}
use Rattle.building_rules.specs.Keeping.{Fit, found, spreads, unconditioned, conditioned}
use Rattle.building_rules.proofs.Settling.{field_spread, field_inline, spread_inline, View, stays, drops, faults, view}

pub no_cons : {A B : Type 0} (x : A) (xs : List A) → x ∷ xs ≡ [] → B
no_cons x xs e = absurd (let z : ◌≡◌ {A = ℕ} 0 1 = cc in omega arith)

pub both_nil : {A : Type 0} (xs ys : List A) → xs ++ ys ≡ [] → (xs ≡ []) × (ys ≡ [])
both_nil [] ys e = (refl, e)
both_nil (x ∷ xs) ys e = no_cons x (xs ++ ys) e

pub nil_both : {A : Type 0} (xs ys : List A) → xs ≡ [] → ys ≡ [] → xs ++ ys ≡ []
nil_both xs ys e f = rw (e, f)

-- what the rules on fields say of a selection in the type t
pub record Good (m : Meaning) (t : ℕ) (s : Selection) (below : Forest Selection) : Type 0 where
  pub found : form_of s ≡ field → (x : FieldDefinition) × (m.field t s.name ≡ Ok x)
  pub leaf : form_of s ≡ field → (x : FieldDefinition) → m.field t s.name ≡ Ok x → Leaf (m.sort x.inner) → below ≡ none

-- and what the rule on conditions says
abbrev pub Conditioned : Meaning → Selection → Type 0
Conditioned m s = form_of s ≡ inline → s.condition ≢ 0 → m.known s.condition ≡ true

module _ (m : Meaning) (t : ℕ) (s : Selection) (below : Forest Selection) where
  fit_good : Fit m t s below → Good m t s below
  fit_good (found x f e l) = record { found = λ _. (x, e); leaf = λ _ y g leaf. let same : x ≡ y = cc in l (rw same leaf) }
  fit_good (spreads f) = record { found = λ g. field_spread g f; leaf = λ g. field_spread g f }
  fit_good (unconditioned f n) = record { found = λ g. field_inline g f; leaf = λ g. field_inline g f }
  fit_good (conditioned f n k) = record { found = λ g. field_inline g f; leaf = λ g. field_inline g f }

  fit_conditioned : Fit m t s below → Conditioned m s
  fit_conditioned (found x f e l) g n = field_inline f g
  fit_conditioned (spreads f) g n = spread_inline f g
  fit_conditioned (unconditioned f z) g n = absurd (n z)
  fit_conditioned (conditioned f z k) g n = k

  inline_fit : (b : Bool) → form_of s ≡ inline → eqb s.condition 0 ≡ b → Conditioned m s → Fit m t s below
  inline_fit true f e c = unconditioned f (eqb-true _ _ e)
  inline_fit false f e c = let some : s.condition ≢ 0 = eqb-false _ _ e in conditioned f some (c f some)

  fit_as : (v : Form) → form_of s ≡ v → Good m t s below → Conditioned m s → Fit m t s below
  fit_as field f good c = let x = good.found f in found x.0 f x.1 (good.leaf f x.0 x.1)
  fit_as spread f good c = spreads f
  fit_as inline f good c = inline_fit (eqb s.condition 0) f refl c

  good_fit : Good m t s below → Conditioned m s → Fit m t s below
  good_fit good c = fit_as (form_of s) refl good c

  -- the type inside a fit selection is known
  inside_known : Closed m → m.known t ≡ true → Fit m t s below → (inner : ℕ) → Inside m t s inner → m.known inner ≡ true
  inside_known closed known fit inner (of_field x f e) = closed.inners t s.name x e
  inside_known closed known fit inner (of_condition f n) = fit_conditioned fit f n
  inside_known closed known fit inner (of_around f n) = known
  inside_known closed known fit inner (of_spread f) = known

  module _ (p : Path) (k : ℕ → List Error) where
    -- a selection that lists nothing, and beneath which nothing is listed
    pub record Fine (w : Settled) : Type 0 where
      pub fit : Fit m t s below
      pub place : ℕ
      pub inner : ℕ
      pub is : w ≡ Kept place inner
      pub inside : Inside m t s inner
      pub next : (i : ℕ) → Inside m t s i → (k i ≡ []) × (m.known i ≡ true)

    fine_as : Lawful m → Closed m → m.known t ≡ true → (v : Form) (w : Settled) → View m t s below v w → listed w p t s k ≡ [] → Fine w
    fine_as law closed known v w (stays place inner fit inside one_inside shape one-shape) h =
        record {
          fit = fit;
          place = place;
          inner = inner;
          is = refl;
          inside = inside;
          next = λ i at. (ap k (one_inside i at) ∙ h, inside_known closed known fit i at);
        }
    fine_as law closed known v w (drops e unfit) h = absurd (law.present t s.name known e)
    fine_as law closed known v w (faults fault unfit) h = no_cons _ _ h

    pub fine : Lawful m → Closed m → m.known t ≡ true → listed (settled_in m t s (some_row below)) p t s k ≡ [] → Fine (settled_in m t s (some_row below))
    fine law closed known h = fine_as law closed known (form_of s) (settled_in m t s (some_row below)) (view m t s below) h

    -- the other way: a fit selection lists nothing if nothing is listed beneath it
    clean_as : (v : Form) (w : Settled) → View m t s below v w → Fit m t s below → ((i : ℕ) → Inside m t s i → k i ≡ []) → listed w p t s k ≡ []
    clean_as v w (stays place inner fit inside one_inside shape one-shape) is next = next inner inside
    clean_as v w (drops e unfit) is next = absurd (unfit is)
    clean_as v w (faults fault unfit) is next = absurd (unfit is)

    pub clean : Fit m t s below → ((i : ℕ) → Inside m t s i → k i ≡ []) → listed (settled_in m t s (some_row below)) p t s k ≡ []
    clean is next = clean_as (form_of s) (settled_in m t s (some_row below)) (view m t s below) is next

module _ (m : Meaning) where
  -- what is listed beneath a selection
  abbrev beneath : Path → Selection → Forest Selection → ℕ → List Error
  beneath p s below = λ inner. errors m (path_to p s) inner below

  module _ (law : Lawful m) (closed : Closed m) where
    fine_row : (p : Path) (around : ℕ) (s : Selection) (below after : Forest Selection) → m.known around ≡ true → errors m p around (row s below after) ≡ []
        → Fine m around s below (path_to p s) (beneath p s below) (settled_in m around s (some_row below)) × (errors m p around after ≡ [])
    fine_row p around s below after known e =
        let two = both_nil _ _ e in
        (fine m around s below (path_to p s) (beneath p s below) law closed known two.0, two.1)

    pub stands_good : (p : Path) {around : ℕ} {f : Forest Selection} {t : ℕ} {s : Selection} {below : Forest Selection} → Stands m around f t s below → m.known around ≡ true → errors m p around f ≡ [] → Good m t s below
    stands_good p (Stands.here {around} {s} {below} {after}) known e =
        fit_good m around s below (fine_row p around s below after known e).0.fit
    stands_good p (Stands.later {around} {b} {under} {after} w) known e = stands_good p w known (fine_row p around b under after known e).1
    stands_good p (Stands.deeper {around} {b} {under} {after} inner i w) known e =
        let n = (fine_row p around b under after known e).0.next inner i in
        stands_good (path_to p b) w n.1 n.0

    pub occurs_conditioned : {s : Selection} (p : Path) (around : ℕ) {f : Forest Selection} → Occurs s f → m.known around ≡ true → errors m p around f ≡ [] → Conditioned m s
    occurs_conditioned {s} p around (Occurs.here {below} {after}) known e =
        fit_conditioned m around s below (fine_row p around s below after known e).0.fit
    occurs_conditioned p around (Occurs.later {a} {below} {after} w) known e = occurs_conditioned p around w known (fine_row p around a below after known e).1
    occurs_conditioned p around (Occurs.deeper {a} {below} {after} w) known e =
        let fine = (fine_row p around a below after known e).0 in
        let n = fine.next fine.inner fine.inside in
        occurs_conditioned (path_to p a) fine.inner w n.1 n.0

    -- selections that list nothing are all kept
    pub all_kept : (p : Path) (around : ℕ) (f : Forest Selection) → m.known around ≡ true → errors m p around f ≡ [] → handed (build m around f) ≡ f
    all_kept p around none known e = refl
    all_kept p around (row s below after) known e =
        let both = fine_row p around s below after known e in
        let fine = both.0 in
        let inner = fine.inner in
        let n = fine.next inner fine.inside in
        let under = all_kept (path_to p s) inner below n.1 n.0 in
        let beyond = all_kept p around after known both.1 in
        ap (λ (w : Settled). handed (keep w s (λ i. build m i below) (build m around after))) fine.is ∙ rw (under, beyond) refl

  pub no_faults : (p : Path) (around : ℕ) (f : Forest Selection)
      → ((t : ℕ) (s : Selection) (below : Forest Selection) → Stands m around f t s below → Good m t s below)
      → ((s : Selection) → Occurs s f → Conditioned m s)
      → errors m p around f ≡ []
  no_faults p around none good c = refl
  no_faults p around (row s below after) good c =
      nil_both _ _
      (clean m around s below (path_to p s) (beneath p s below) (good_fit m around s below (good around s below Stands.here) (c s Occurs.here))
      (λ inner i. no_faults (path_to p s) inner below (λ t b u w. good t b u (Stands.deeper inner i w)) (λ b w. c b (Occurs.deeper w))))
      (no_faults p around after (λ t b u w. good t b u (Stands.later w)) (λ b w. c b (Occurs.later w)))

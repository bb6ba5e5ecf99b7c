-- Definitions list no error exactly when each stands by itself, and each name is new.
use Rattle.std.proofs.Common.{◌≡◌, ℕ, Bool, true, false, cond, List, [], ◌∷◌, Some, None, Option, refl}
use Rattle.std.proofs.lemmas.Bool.{cond-false, false≢true}
use Rattle.std.specs.List.{AllByRecursion}
use Rattle.schema.specs.Meaning.{Meaning}
use Rattle.selection_rules.specs.Errors.{Error}
use Rattle.selection_rules.specs.Sets.{errors}
use Rattle.building_rules.specs.Definitions.{Accepted, Role, anonymous_operation, named_operation, fragment, type_system, role_of, operation_of, start_path, Taken, taken, taken_at, State, with_anonymous, with_operation, with_fragment, rooted, add_anonymous, add_named, add_fragment, beside, before, step_of, step, errors_from}
use Rattle.building_rules.specs.Rules.{anonymous_role, named_role, fragment_role, is_named, is_fragment}
use Rattle.building_rules.proofs.Rows.{no_cons, both_nil, nil_both}
use Rattle.building_rules.proofs.Names.{New, LoneAt, Lone}

-- an operation that has a root and lists nothing in it
pub record Rooted (m : Meaning) (d : Accepted) : Type 0 where
  pub type : ℕ
  pub root : m.root (operation_of d.head) ≡ Some type
  pub clean : errors m (start_path d.head) type d.selected ≡ []

-- what a definition shows by itself
abbrev pub Local : Meaning → Accepted → Role → Type 0
Local m d anonymous_operation = Rooted m d
Local m d named_operation = Rooted m d
Local m d fragment = (m.known d.head.condition ≡ true) × (errors m (start_path d.head) d.head.condition d.selected ≡ [])
Local m d type_system = d.strict ≡ false

-- the state after a definition that is stored, or is of the type system
abbrev pub advance : State → Accepted → Role → State
advance s d w =
    record {
      anonymous = cond (anonymous_role w) (Some d.head.location) s.anonymous;
      multiple = s.multiple;
      operations = cond (named_role w) (taken d.head ∷ s.operations) s.operations;
      fragments = cond (fragment_role w) (taken d.head ∷ s.fragments) s.fragments;
    }

-- a definition that lists nothing
record Clean (m : Meaning) (s : State) (d : Accepted) (w : Role) : Type 0 where
  local : Local m d w
  operation : named_role w ≡ true → taken_at d.head.name s.operations ≡ None
  fragment : fragment_role w ≡ true → taken_at d.head.name s.fragments ≡ None
  lone : LoneAt w s.anonymous s.operations

module _ (m : Meaning) (d : Accepted) where
  rooted_fine : (r : Option ℕ) (s next : State) → m.root (operation_of d.head) ≡ r → (rooted m d r s next).errors ≡ [] → Rooted m d × ((rooted m d r s next).next ≡ next)
  rooted_fine None s next e h = no_cons _ _ h
  rooted_fine (Some ty) s next e h = (record { type = ty; root = e; clean = h }, refl)

  anonymous_fine : (s : State) (a : Option ℕ) (ns : List Taken) → (add_anonymous m s d a ns).errors ≡ [] → Rooted m d × (a ≡ None) × (ns ≡ []) × ((add_anonymous m s d a ns).next ≡ with_anonymous s d.head)
  anonymous_fine s (Some at) ns h = no_cons _ _ (both_nil _ _ h).1
  anonymous_fine s None (n ∷ ns) h = no_cons _ _ h
  anonymous_fine s None [] h = let r = rooted_fine (m.root (operation_of d.head)) s (with_anonymous s d.head) refl h in (r.0, refl, refl, r.1)

  named_fine : (s : State) (o : Option ℕ) → (add_named m s d o).errors ≡ [] → Rooted m d × (o ≡ None) × ((add_named m s d o).next ≡ with_operation s d.head)
  named_fine s (Some at) h = no_cons _ _ h
  named_fine s None h = let r = rooted_fine (m.root (operation_of d.head)) s (with_operation s d.head) refl h in (r.0, refl, r.1)

  beside_fine : (o : Option ℕ) → beside o ≡ [] → o ≡ None
  beside_fine None h = refl
  beside_fine (Some at) h = no_cons _ _ h

  fragment_fine : (s : State) (o : Option ℕ) (b : Bool) → m.known d.head.condition ≡ b → (add_fragment m s d o b).errors ≡ [] → Local m d fragment × (o ≡ None) × ((add_fragment m s d o b).next ≡ with_fragment s d.head)
  fragment_fine s (Some at) b e h = no_cons _ _ h
  fragment_fine s None false e h = no_cons _ _ h
  fragment_fine s None true e h = ((e, h), refl, refl)

  system_fine : (b : Bool) (e : Error) → cond b (e ∷ []) [] ≡ [] → b ≡ false
  system_fine true e h = no_cons _ _ h
  system_fine false e h = refl

  step_fine : (s : State) (w : Role) → (step_of w m s d).errors ≡ [] → Clean m s d w × ((step_of w m s d).next ≡ advance s d w)
  step_fine s anonymous_operation h =
      let r = anonymous_fine s s.anonymous s.operations h in
      (record { local = r.0; operation = λ e. absurd (false≢true e); fragment = λ e. absurd (false≢true e); lone = (r.1, r.2) }, r.3)
  step_fine s named_operation h =
      let two = both_nil (beside s.anonymous) _ h in
      let r = named_fine s (taken_at d.head.name s.operations) two.1 in
      (record { local = r.0; operation = λ e. r.1; fragment = λ e. absurd (false≢true e); lone = beside_fine s.anonymous two.0 }, r.2)
  step_fine s fragment h =
      let r = fragment_fine s (taken_at d.head.name s.fragments) (m.known d.head.condition) refl h in
      (record { local = r.0; operation = λ e. absurd (false≢true e); fragment = λ e. r.1; lone = tt }, r.2)
  step_fine s type_system h =
      (record { local = system_fine d.strict _ h; operation = λ e. absurd (false≢true e); fragment = λ e. absurd (false≢true e); lone = tt }, refl)

  rooted_clean : (s next : State) → Rooted m d → ((rooted m d (m.root (operation_of d.head)) s next).errors ≡ []) × ((rooted m d (m.root (operation_of d.head)) s next).next ≡ next)
  rooted_clean s next r = rw r.root (r.clean, refl)

  anonymous_clean : (s : State) (a : Option ℕ) (ns : List Taken) → a ≡ None → ns ≡ [] → Rooted m d → ((add_anonymous m s d a ns).errors ≡ []) × ((add_anonymous m s d a ns).next ≡ with_anonymous s d.head)
  anonymous_clean s a ns e f r = rw (e, f) (rooted_clean s (with_anonymous s d.head) r)

  named_clean : (s : State) (a o : Option ℕ) → a ≡ None → o ≡ None → Rooted m d → ((before (beside a) (add_named m s d o)).errors ≡ []) × ((add_named m s d o).next ≡ with_operation s d.head)
  named_clean s a o e f r = rw (e, f) (rooted_clean s (with_operation s d.head) r)

  fragment_clean : (s : State) (o : Option ℕ) (b : Bool) → o ≡ None → b ≡ true → Local m d fragment → ((add_fragment m s d o b).errors ≡ []) × ((add_fragment m s d o b).next ≡ with_fragment s d.head)
  fragment_clean s o b e f r = rw (e, f) (r.1, refl)

  step_clean : (s : State) (w : Role) → Clean m s d w → ((step_of w m s d).errors ≡ []) × ((step_of w m s d).next ≡ advance s d w)
  step_clean s anonymous_operation c = anonymous_clean s s.anonymous s.operations c.lone.0 c.lone.1 c.local
  step_clean s named_operation c = named_clean s s.anonymous (taken_at d.head.name s.operations) c.lone (c.operation refl) c.local
  step_clean s fragment c = fragment_clean s (taken_at d.head.name s.fragments) (m.known d.head.condition) (c.fragment refl) c.local.0 c.local
  step_clean s type_system c = (cond-false d.strict _ [] c.local, refl)

-- all that a run without errors shows
pub record Runs (m : Meaning) (s : State) (ds : List Accepted) : Type 0 where
  pub local : AllByRecursion (λ d. Local m d (role_of d.head)) ds
  pub operation : New is_named s.operations ds
  pub fragment : New is_fragment s.fragments ds
  pub lone : Lone s.anonymous s.operations ds

pub runs : (m : Meaning) (s : State) (ds : List Accepted) → errors_from m s ds ≡ [] → Runs m s ds
runs m s [] h = record { local = tt; operation = tt; fragment = tt; lone = tt }
runs m s (d ∷ ds) h =
    let two = both_nil (step m s d).errors _ h in
    let one = step_fine m d s (role_of d.head) two.0 in
    let rest = runs m (advance s d (role_of d.head)) ds (rw one.1 at two.1) in
    record {
      local = (one.0.local, rest.local);
      operation = (one.0.operation, rest.operation);
      fragment = (one.0.fragment, rest.fragment);
      lone = (one.0.lone, rest.lone);
    }

pub no_errors : (m : Meaning) (s : State) (ds : List Accepted) → Runs m s ds → errors_from m s ds ≡ []
no_errors m s [] r = refl
no_errors m s (d ∷ ds) r =
    let one = step_clean m d s (role_of d.head) (record { local = r.local.0; operation = r.operation.0; fragment = r.fragment.0; lone = r.lone.0 }) in
    let rest = no_errors m (advance s d (role_of d.head)) ds (record { local = r.local.1; operation = r.operation.1; fragment = r.fragment.1; lone = r.lone.1 }) in
    nil_both (step m s d).errors _ one.0 (rw one.1 rest)

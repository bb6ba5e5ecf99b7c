-- The state of the rules, read off what is kept; and definitions that are taken in, in two parts.
use Rattle.std.proofs.Common.{◌≡◌, ℕ, Bool, true, false, cond, List, [], ◌∷◌, ◌++◌, Some, None, Option, sym, refl, ap, ◌∙◌}
use Rattle.std.proofs.lemmas.List.{append-nil}
use Rattle.document.specs.Rows.{Head}
use Rattle.schema.specs.Meaning.{Meaning}
use Rattle.selection_rules.specs.Errors.{Error}
use Rattle.selection_rules.specs.Sets.{build}
use Rattle.building_rules.specs.Definitions.{Accepted, Kept, Role, anonymous_operation, named_operation, fragment, type_system, role_of, operation_of, Taken, taken, taken_at, State, Outcome, with_anonymous, with_operation, rooted, add_anonymous, add_named, add_fragment, step_of, step, errors_from, kept_from, state_after}
use Rattle.building_rules.specs.Rules.{anonymous_role, named_role, fragment_role}
use Rattle.building_rules.proofs.GoesOn.{runs_go_on}
use Rattle.builder.specs.Holding.{Held, state_of, filled_with, one_in, taken_in}
use Rattle.builder.proofs.Kepts.{Fit, filled_two, names_after, lone_after, with_kept, Room, same_state, filled_state}

-- one kept definition, by its role
abbrev one_kept : State → Role → Head → Bool → State
one_kept s role h multiple =
    record {
      anonymous = cond (anonymous_role role) (Some h.location) s.anonymous;
      multiple = multiple;
      operations = cond (named_role role) (taken h ∷ s.operations) s.operations;
      fragments = cond (fragment_role role) (taken h ∷ s.fragments) s.fragments;
    }

-- the state after a step is that of what the step keeps
abbrev Leads : State → Outcome → Type 0
Leads s o = o.next ≡ with_kept s o.kept o.next.multiple

module _ (m : Meaning) (s : State) (d : Accepted) where
  by_role : (role : Role) (t : ℕ) (b : Bool) → role_of d.head ≡ role → with_kept s (record { head = d.head; set_type = t; rows = build m t d.selected } ∷ []) b ≡ one_kept s role d.head b
  by_role role t b is = ap (λ (r : Role). one_kept s r d.head b) is

  rooted_leads : (role : Role) (root : Option ℕ) (next : State) → role_of d.head ≡ role → next ≡ one_kept s role d.head next.multiple → Leads s (rooted m d root s next)
  rooted_leads role None next is e = refl
  rooted_leads role (Some t) next is e = e ∙ sym (by_role role t next.multiple is)

  anonymous_leads : (a : Option ℕ) (names : List Taken) → role_of d.head ≡ anonymous_operation → Leads s (add_anonymous m s d a names)
  anonymous_leads (Some at) names is = refl
  anonymous_leads None (n ∷ names) is = refl
  anonymous_leads None [] is = rooted_leads anonymous_operation (m.root (operation_of d.head)) (with_anonymous s d.head) is refl

  named_leads : (at : Option ℕ) → role_of d.head ≡ named_operation → Leads s (add_named m s d at)
  named_leads (Some at) is = refl
  named_leads None is = rooted_leads named_operation (m.root (operation_of d.head)) (with_operation s d.head) is refl

  fragment_leads : (at : Option ℕ) (known : Bool) → role_of d.head ≡ fragment → Leads s (add_fragment m s d at known)
  fragment_leads (Some at) known is = refl
  fragment_leads None false is = refl
  fragment_leads None true is = sym (by_role fragment d.head.condition s.multiple is)

  leads_as : (role : Role) → role_of d.head ≡ role → Leads s (step_of role m s d)
  leads_as anonymous_operation is = anonymous_leads s.anonymous s.operations is
  leads_as named_operation is = named_leads (taken_at d.head.name s.operations) is
  leads_as fragment is = fragment_leads (taken_at d.head.name s.fragments) (m.known d.head.condition) is
  leads_as type_system is = refl

  pub leads : Leads s (step m s d)
  leads = leads_as (role_of d.head) refl

names_two : (test : Role → Bool) (ks js : List Kept) (ts : List Taken) → names_after test js (names_after test ks ts) ≡ names_after test (ks ++ js) ts
names_two test [] js ts = refl
names_two test (k ∷ ks) js ts = names_two test ks js _

lone_two : (ks js : List Kept) (a : Option ℕ) → lone_after js (lone_after ks a) ≡ lone_after (ks ++ js) a
lone_two [] js a = refl
lone_two (k ∷ ks) js a = lone_two ks js _

kept_two : (s : State) (ks js : List Kept) (b c : Bool) → with_kept (with_kept s ks b) js c ≡ with_kept s (ks ++ js) c
kept_two s ks js b c =
    same_state (lone_two ks js s.anonymous) refl (names_two named_role ks js s.operations) (names_two fragment_role ks js s.fragments)

-- the state after definitions is that of what is kept of them
pub state_kept : (m : Meaning) (s : State) (ds : List Accepted) → state_after m s ds ≡ with_kept s (kept_from m s ds) (state_after m s ds).multiple
state_kept m s [] = refl
state_kept m s (d ∷ ds) =
    let o = step m s d in
    let last = (state_after m o.next ds).multiple in
    state_kept m o.next ds
    ∙ ap (λ (x : State). with_kept x (kept_from m o.next ds) last) (leads m s d)
    ∙ kept_two s o.kept (kept_from m o.next ds) o.next.multiple last

-- Definitions that are taken in

-- what is held after definitions has the state after them
pub taken_state : (m : Meaning) (h : Held) (ds : List Accepted) → Room h (kept_from m (state_of h) ds) → state_of (taken_in m h ds) ≡ state_after m (state_of h) ds
taken_state m h ds room =
    filled_state h (kept_from m (state_of h) ds) (errors_from m (state_of h) ds) (state_after m (state_of h) ds).multiple room
    ∙ sym (state_kept m (state_of h) ds)

-- the second part goes on where the first left off
pub taken_two : (m : Meaning) (h : Held) (ds es : List Accepted) → Room h (kept_from m (state_of h) ds) → Fit h (kept_from m (state_of h) ds) (errors_from m (state_of h) ds)
    → taken_in m (taken_in m h ds) es ≡ taken_in m h (ds ++ es)
taken_two m h ds es room fit =
    let s = state_of h in
    let t = state_after m s ds in
    let both = runs_go_on m s ds es in
    ap (λ (x : State). filled_with (taken_in m h ds) (kept_from m x es) (errors_from m x es) (state_after m x es).multiple) (taken_state m h ds room)
    ∙ filled_two h (kept_from m s ds) (kept_from m t es) (errors_from m s ds) (errors_from m t es) (state_after m s ds).multiple (state_after m t es).multiple fit
    ∙ ap (λ (ks : List Kept). filled_with h ks (errors_from m s ds ++ errors_from m t es) (state_after m t es).multiple) (sym both.kept)
    ∙ ap (λ (l : List Error). filled_with h (kept_from m s (ds ++ es)) l (state_after m t es).multiple) (sym both.errors)
    ∙ ap (λ (x : State). filled_with h (kept_from m s (ds ++ es)) (errors_from m s (ds ++ es)) x.multiple) (sym both.state)

-- one definition, taken in alone
pub one_taken : (m : Meaning) (h : Held) (d : Accepted) → taken_in m h (d ∷ []) ≡ one_in m h d
one_taken m h d =
    let o = step m (state_of h) d in
    ap (λ (ks : List Kept). filled_with h ks (o.errors ++ []) o.next.multiple) (append-nil o.kept)
    ∙ ap (λ (l : List Error). filled_with h o.kept l o.next.multiple) (append-nil o.errors)

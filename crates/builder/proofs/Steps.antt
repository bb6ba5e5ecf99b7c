-- A step of building is what is ruled of the definition and what its selections come to; and it fills the tables so.
use Rattle.std.proofs.Common.{◌≡◌, ℕ, ◌≤◌, Bool, true, false, cond, List, [], ◌∷◌, ◌++◌, length, Some, None, Option, sym, refl, ap, ◌∙◌, subst, append_assoc, arith}
use Rattle.std.proofs.lemmas.List.{append-nil}
use Rattle.document.specs.Rows.{Head}
use Rattle.schema.specs.Meaning.{Meaning}
use Rattle.selection_rules.specs.Errors.{Error, keys_in, error_rows, type_system_definition, ambiguous_anonymous_operation}
use Rattle.selection_rules.specs.Sets.{build, errors}
use Rattle.building_rules.specs.Definitions.{Accepted, Kept, Role, anonymous_operation, named_operation, fragment, type_system, role_of, operation_of, start_path, Taken, taken_at, State, Outcome, with_anonymous, with_operation, rooted, add_anonymous, add_named, add_fragment, beside, step_of, step}
use Rattle.builder.specs.Ruling.{root_errors, anonymous_errors, name_errors, fragment_errors, own_errors_as, own_errors, lone_root, named_root, fragment_type, set_type_as, now_multiple}

-- what the selections of a definition list, where it is stored in a type
abbrev pub set_errors : Meaning → Accepted → Option ℕ → List Error
set_errors m d None = []
set_errors m d (Some t) = errors m (start_path d.head) t d.selected

abbrev pub kept_as : Meaning → Accepted → Option ℕ → List Kept
kept_as m d None = []
kept_as m d (Some t) = record { head = d.head; set_type = t; rows = build m t d.selected } ∷ []

-- a step in two parts: the definition itself, and its selections
pub record Parts (m : Meaning) (s : State) (d : Accepted) (role : Role) (o : Outcome) : Type 0 where
  pub errors : o.errors ≡ own_errors_as role m s d.head d.strict ++ set_errors m d (set_type_as role m s d.head)
  pub kept : o.kept ≡ kept_as m d (set_type_as role m s d.head)
  pub multiple : o.next.multiple ≡ now_multiple role s.anonymous s.multiple

module _ (m : Meaning) (s : State) (d : Accepted) where
  rooted_errors : (root : Option ℕ) (next : State) → (rooted m d root s next).errors ≡ root_errors root d.head ++ set_errors m d root
  rooted_errors None next = refl
  rooted_errors (Some t) next = refl

  rooted_kept : (root : Option ℕ) (next : State) → (rooted m d root s next).kept ≡ kept_as m d root
  rooted_kept None next = refl
  rooted_kept (Some t) next = refl

  rooted_multiple : (root : Option ℕ) (next : State) → next.multiple ≡ s.multiple → (rooted m d root s next).next.multiple ≡ s.multiple
  rooted_multiple None next e = refl
  rooted_multiple (Some t) next e = e

  anonymous_errors_so : (a : Option ℕ) (names : List Taken) → (add_anonymous m s d a names).errors ≡ anonymous_errors m a s.multiple names d.head ++ set_errors m d (lone_root m a names d.head)
  anonymous_errors_so (Some at) names = sym (append-nil _)
  anonymous_errors_so None (n ∷ names) = refl
  anonymous_errors_so None [] = rooted_errors (m.root (operation_of d.head)) (with_anonymous s d.head)

  anonymous_kept_so : (a : Option ℕ) (names : List Taken) → (add_anonymous m s d a names).kept ≡ kept_as m d (lone_root m a names d.head)
  anonymous_kept_so (Some at) names = refl
  anonymous_kept_so None (n ∷ names) = refl
  anonymous_kept_so None [] = rooted_kept (m.root (operation_of d.head)) (with_anonymous s d.head)

  anonymous_multiple_so : (a : Option ℕ) (names : List Taken) → (add_anonymous m s d a names).next.multiple ≡ now_multiple anonymous_operation a s.multiple
  anonymous_multiple_so (Some at) names = refl
  anonymous_multiple_so None (n ∷ names) = refl
  anonymous_multiple_so None [] = rooted_multiple (m.root (operation_of d.head)) (with_anonymous s d.head) refl

  named_errors_so : (taken : Option ℕ) → (add_named m s d taken).errors ≡ name_errors m taken d.head ++ set_errors m d (named_root m taken d.head)
  named_errors_so (Some at) = refl
  named_errors_so None = rooted_errors (m.root (operation_of d.head)) (with_operation s d.head)

  named_kept_so : (taken : Option ℕ) → (add_named m s d taken).kept ≡ kept_as m d (named_root m taken d.head)
  named_kept_so (Some at) = refl
  named_kept_so None = rooted_kept (m.root (operation_of d.head)) (with_operation s d.head)

  named_multiple_so : (taken : Option ℕ) → (add_named m s d taken).next.multiple ≡ s.multiple
  named_multiple_so (Some at) = refl
  named_multiple_so None = rooted_multiple (m.root (operation_of d.head)) (with_operation s d.head) refl

  fragment_errors_so : (taken : Option ℕ) (known : Bool) → (add_fragment m s d taken known).errors ≡ fragment_errors taken known d.head ++ set_errors m d (fragment_type taken known d.head)
  fragment_errors_so (Some at) known = refl
  fragment_errors_so None true = refl
  fragment_errors_so None false = refl

  fragment_kept_so : (taken : Option ℕ) (known : Bool) → (add_fragment m s d taken known).kept ≡ kept_as m d (fragment_type taken known d.head)
  fragment_kept_so (Some at) known = refl
  fragment_kept_so None true = refl
  fragment_kept_so None false = refl

  fragment_multiple_so : (taken : Option ℕ) (known : Bool) → (add_fragment m s d taken known).next.multiple ≡ s.multiple
  fragment_multiple_so (Some at) known = refl
  fragment_multiple_so None true = refl
  fragment_multiple_so None false = refl

  parts_as : (role : Role) → Parts m s d role (step_of role m s d)
  parts_as anonymous_operation =
      record { errors = anonymous_errors_so s.anonymous s.operations; kept = anonymous_kept_so s.anonymous s.operations; multiple = anonymous_multiple_so s.anonymous s.operations }
  parts_as named_operation =
      let taken = taken_at d.head.name s.operations in
      record {
        errors = ap (λ (l : List Error). beside s.anonymous ++ l) (named_errors_so taken) ∙ sym (append_assoc (beside s.anonymous) (name_errors m taken d.head) (set_errors m d (named_root m taken d.head)));
        kept = named_kept_so taken;
        multiple = named_multiple_so taken;
      }
  parts_as fragment =
      let taken = taken_at d.head.name s.fragments in
      let known = m.known d.head.condition in
      record { errors = fragment_errors_so taken known; kept = fragment_kept_so taken known; multiple = fragment_multiple_so taken known }
  parts_as type_system = record { errors = sym (append-nil _); kept = refl; multiple = refl }

  pub parts : Parts m s d (role_of d.head) (step m s d)
  parts = parts_as (role_of d.head)

-- the errors of a definition itself have no path
pub record Pathless (es : List Error) : Type 0 where
  pub keys : keys_in es ≡ []
  pub rows : (q : ℕ) → error_rows q es ≡ error_rows 0 es
  pub few : length es ≤ 2

module _ (m : Meaning) (s : State) (h : Head) (strict : Bool) where
  rootless : (root : Option ℕ) → Pathless (root_errors root h)
  rootless None = record { keys = refl; rows = λ q. refl; few = omega arith }
  rootless (Some t) = record { keys = refl; rows = λ q. refl; few = omega arith }

  anonymous_pathless : (a : Option ℕ) (b : Bool) (names : List Taken) → Pathless (anonymous_errors m a b names h)
  anonymous_pathless (Some at) true names = record { keys = refl; rows = λ q. refl; few = omega arith }
  anonymous_pathless (Some at) false names = record { keys = refl; rows = λ q. refl; few = omega arith }
  anonymous_pathless None b (n ∷ names) = record { keys = refl; rows = λ q. refl; few = omega arith }
  anonymous_pathless None b [] = rootless (m.root (operation_of h))

  named_pathless : (a taken root : Option ℕ) → m.root (operation_of h) ≡ root → Pathless (beside a ++ name_errors m taken h)
  named_pathless None (Some at) root e = record { keys = refl; rows = λ q. refl; few = omega arith }
  named_pathless (Some b) (Some at) root e = record { keys = refl; rows = λ q. refl; few = omega arith }
  named_pathless None None root e = rootless (m.root (operation_of h))
  named_pathless (Some b) None None e = subst (λ (r : Option ℕ). Pathless (ambiguous_anonymous_operation b ∷ root_errors r h)) (sym e) (record { keys = refl; rows = λ q. refl; few = omega arith })
  named_pathless (Some b) None (Some t) e = subst (λ (r : Option ℕ). Pathless (ambiguous_anonymous_operation b ∷ root_errors r h)) (sym e) (record { keys = refl; rows = λ q. refl; few = omega arith })

  fragment_pathless : (taken : Option ℕ) (known : Bool) → Pathless (fragment_errors taken known h)
  fragment_pathless (Some at) known = record { keys = refl; rows = λ q. refl; few = omega arith }
  fragment_pathless None true = record { keys = refl; rows = λ q. refl; few = omega arith }
  fragment_pathless None false = record { keys = refl; rows = λ q. refl; few = omega arith }

  system_pathless : (b : Bool) → Pathless (cond b (type_system_definition h.location h.name h.kind ∷ []) [])
  system_pathless true = record { keys = refl; rows = λ q. refl; few = omega arith }
  system_pathless false = record { keys = refl; rows = λ q. refl; few = omega arith }

  pathless_as : (role : Role) → Pathless (own_errors_as role m s h strict)
  pathless_as anonymous_operation = anonymous_pathless s.anonymous s.multiple s.operations
  pathless_as named_operation = named_pathless s.anonymous (taken_at h.name s.operations) (m.root (operation_of h)) refl
  pathless_as fragment = fragment_pathless (taken_at h.name s.fragments) (m.known h.condition)
  pathless_as type_system = system_pathless strict

  pub pathless : Pathless (own_errors m s h strict)
  pathless = pathless_as (role_of h)

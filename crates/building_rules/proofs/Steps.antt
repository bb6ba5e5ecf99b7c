-- What becomes of a definition: it is stored exactly where nothing that is stored stands against it, and its type is known.
use Rattle.std.proofs.Common.{◌≡◌, ℕ, Bool, true, false, List, [], ◌∷◌, Some, None, Option, refl}
use Rattle.std.proofs.lemmas.Bool.{false≢true}
use Rattle.schema.specs.Meaning.{Meaning}
use Rattle.building_rules.specs.Definitions.{Accepted, Role, anonymous_operation, named_operation, fragment, type_system, role_of, operation_of, Taken, taken_at, State, with_anonymous, with_operation, Outcome, rooted, add_anonymous, add_named, add_fragment, step_of, step}
use Rattle.building_rules.specs.Rules.{anonymous_role, named_role, fragment_role}
use Rattle.building_rules.specs.Chosen.{kept_with}
use Rattle.building_rules.proofs.Definitions.{advance}

-- in the state s nothing stands against the definition d, and `around` is the type around its selections
pub data Stores (m : Meaning) (s : State) (d : Accepted) : ℕ → Type 0 where
  as_anonymous : (around : ℕ) → role_of d.head ≡ anonymous_operation → s.anonymous ≡ None → s.operations ≡ [] → m.root (operation_of d.head) ≡ Some around → Stores m s d around
  as_named : (around : ℕ) → role_of d.head ≡ named_operation → taken_at d.head.name s.operations ≡ None → m.root (operation_of d.head) ≡ Some around → Stores m s d around
  as_fragment : role_of d.head ≡ fragment → taken_at d.head.name s.fragments ≡ None → m.known d.head.condition ≡ true → Stores m s d d.head.condition

-- two states in which the same is stored
pub record Same (s t : State) : Type 0 where
  pub anonymous : t.anonymous ≡ s.anonymous
  pub operations : t.operations ≡ s.operations
  pub fragments : t.fragments ≡ s.fragments

-- a definition is stored and the state goes on by it, or it is left out
pub data Becomes (m : Meaning) (s : State) (d : Accepted) (o : Outcome) : Type 0 where
  stays : (around : ℕ) → Stores m s d around → o.kept ≡ kept_with m d around ∷ [] → o.next ≡ advance s d (role_of d.head) → Becomes m s d o
  passes : o.kept ≡ [] → Same s o.next → ((around : ℕ) → Stores m s d around → ⊥) → Becomes m s d o

module _ (m : Meaning) (s : State) (d : Accepted) where
  -- a definition that is stored has a name that is not taken, and an anonymous one is the first
  pub operation_free : {around : ℕ} → Stores m s d around → named_role (role_of d.head) ≡ true → taken_at d.head.name s.operations ≡ None
  operation_free (as_anonymous around w a b r) e = absurd (false≢true (rw w at e))
  operation_free (as_named around w f r) e = f
  operation_free (as_fragment w f k) e = absurd (false≢true (rw w at e))

  pub fragment_free : {around : ℕ} → Stores m s d around → fragment_role (role_of d.head) ≡ true → taken_at d.head.name s.fragments ≡ None
  fragment_free (as_anonymous around w a b r) e = absurd (false≢true (rw w at e))
  fragment_free (as_named around w f r) e = absurd (false≢true (rw w at e))
  fragment_free (as_fragment w f k) e = f

  pub anonymous_free : {around : ℕ} → Stores m s d around → anonymous_role (role_of d.head) ≡ true → s.anonymous ≡ None
  anonymous_free (as_anonymous around w a b r) e = a
  anonymous_free (as_named around w f r) e = absurd (false≢true (rw w at e))
  anonymous_free (as_fragment w f k) e = absurd (false≢true (rw w at e))

  same : Same s s
  same = record { anonymous = refl; operations = refl; fragments = refl }

  -- what stands against a definition, role by role
  anonymous_taken : role_of d.head ≡ anonymous_operation → ((s.anonymous ≡ None) × (s.operations ≡ []) → ⊥) → (around : ℕ) → Stores m s d around → ⊥
  anonymous_taken w never t (as_anonymous around v a b r) = never (a, b)
  anonymous_taken w never t (as_named around v e r) = cc
  anonymous_taken w never t (as_fragment v e k) = cc

  named_taken : role_of d.head ≡ named_operation → (taken_at d.head.name s.operations ≡ None → ⊥) → (around : ℕ) → Stores m s d around → ⊥
  named_taken w never t (as_anonymous around v a b r) = cc
  named_taken w never t (as_named around v e r) = never e
  named_taken w never t (as_fragment v e k) = cc

  fragment_taken : role_of d.head ≡ fragment → (taken_at d.head.name s.fragments ≡ None → m.known d.head.condition ≡ true → ⊥) → (around : ℕ) → Stores m s d around → ⊥
  fragment_taken w never t (as_anonymous around v a b r) = cc
  fragment_taken w never t (as_named around v e r) = cc
  fragment_taken w never t (as_fragment v e k) = never e k

  system_taken : role_of d.head ≡ type_system → (around : ℕ) → Stores m s d around → ⊥
  system_taken w t (as_anonymous around v a b r) = cc
  system_taken w t (as_named around v e r) = cc
  system_taken w t (as_fragment v e k) = cc

  rootless : m.root (operation_of d.head) ≡ None → (role_of d.head ≡ fragment → ⊥) → (around : ℕ) → Stores m s d around → ⊥
  rootless e w t (as_anonymous around v a b r) = cc
  rootless e w t (as_named around v f r) = cc
  rootless e w t (as_fragment v f k) = w v

  rooted_becomes : (r : Option ℕ) (next : State) → m.root (operation_of d.head) ≡ r → (role_of d.head ≡ fragment → ⊥) → ((around : ℕ) → m.root (operation_of d.head) ≡ Some around → Stores m s d around) → next ≡ advance s d (role_of d.head) → Becomes m s d (rooted m d r s next)
  rooted_becomes None next e w free is = passes refl same (rootless e w)
  rooted_becomes (Some around) next e w free is = stays around (free around e) refl is

  anonymous_becomes : (a : Option ℕ) (ns : List Taken) → role_of d.head ≡ anonymous_operation → s.anonymous ≡ a → s.operations ≡ ns → Becomes m s d (add_anonymous m s d a ns)
  anonymous_becomes (Some at) ns w e f = passes refl (record { anonymous = refl; operations = refl; fragments = refl }) (anonymous_taken w (λ two. let g = two.0 in cc))
  anonymous_becomes None (n ∷ ns) w e f = passes refl same (anonymous_taken w (λ two. let g = two.1 in cc))
  anonymous_becomes None [] w e f =
      rooted_becomes (m.root (operation_of d.head)) (with_anonymous s d.head) refl (λ v. cc) (λ around r. as_anonymous around w e f r) (rw w refl)

  named_becomes : (o : Option ℕ) → role_of d.head ≡ named_operation → taken_at d.head.name s.operations ≡ o → Becomes m s d (add_named m s d o)
  named_becomes (Some at) w e = passes refl same (named_taken w (λ f. cc))
  named_becomes None w e =
      rooted_becomes (m.root (operation_of d.head)) (with_operation s d.head) refl (λ v. cc) (λ around r. as_named around w e r) (rw w refl)

  fragment_becomes : (o : Option ℕ) (b : Bool) → role_of d.head ≡ fragment → taken_at d.head.name s.fragments ≡ o → m.known d.head.condition ≡ b → Becomes m s d (add_fragment m s d o b)
  fragment_becomes (Some at) b w e f = passes refl same (fragment_taken w (λ g k. cc))
  fragment_becomes None false w e f = passes refl same (fragment_taken w (λ g k. cc))
  fragment_becomes None true w e f = stays d.head.condition (as_fragment w e f) refl (rw w refl)

  -- errors that are told before it change nothing
  told_before : (o p : Outcome) → p.kept ≡ o.kept → p.next ≡ o.next → Becomes m s d o → Becomes m s d p
  told_before o p e f (stays around h k n) = stays around h (rw e k) (rw f n)
  told_before o p e f (passes k n never) = passes (rw e k) (rw f n) never

  role_becomes : (w : Role) → role_of d.head ≡ w → Becomes m s d (step_of w m s d)
  role_becomes anonymous_operation w = anonymous_becomes s.anonymous s.operations w refl refl
  role_becomes named_operation w =
      told_before (add_named m s d (taken_at d.head.name s.operations)) (step_of named_operation m s d) refl refl (named_becomes (taken_at d.head.name s.operations) w refl)
  role_becomes fragment w = fragment_becomes (taken_at d.head.name s.fragments) (m.known d.head.condition) w refl refl
  role_becomes type_system w = passes refl same (system_taken w)

  pub becomes : Becomes m s d (step m s d)
  becomes = role_becomes (role_of d.head) refl

-- Of a valid document everything is kept.
use Rattle.std.proofs.Common.{◌≡◌, ℕ, Bool, true, false, cond, ◌||◌, List, [], ◌∷◌, ◌++◌, map, Some, None, filter, Option, refl, ap, ◌∙◌}
use Rattle.std.proofs.lemmas.List.{map-append}
use Rattle.schema.specs.Meaning.{Meaning, Closed}
use Rattle.schema.specs.Law.{Lawful}
use Rattle.building_rules.specs.Definitions.{Accepted, Role, anonymous_operation, named_operation, fragment, type_system, role_of, operation_of, start_path, Kept, Taken, taken_at, State, fresh, with_anonymous, with_operation, rooted, add_anonymous, add_named, add_fragment, beside, step_of, step, errors_from, kept_from}
use Rattle.building_rules.specs.Rules.{operation_role, fragment_role, is_executable}
use Rattle.building_rules.specs.Whole.{handed_for, definition_of, ValidIsKeptWhole}
use Rattle.building_rules.proofs.Rows.{no_cons, both_nil, all_kept}
use Rattle.building_rules.proofs.Joined.{no_errors_exactly_when_valid}

front : {A B : Type 0} (f : A → B) (b : Bool) (x : A) (xs : List A) → map f (cond b (x ∷ []) []) ++ map f xs ≡ map f (cond b (x ∷ xs) xs)
front f true x xs = refl
front f false x xs = refl

-- what one definition leaves, if it is executable and if it is not
abbrev Left : Accepted → Bool → List Kept → Type 0
Left d b ks = map handed_for ks ≡ map definition_of (cond b (d ∷ []) [])

module _ (m : Meaning) (law : Lawful m) (closed : Closed m) (d : Accepted) where
  whole : (around : ℕ) → m.known around ≡ true → (rooted m d (Some around) fresh fresh).errors ≡ [] → Left d true (rooted m d (Some around) fresh fresh).kept
  whole around known h =
      ap (λ f. record { head = d.head; selected = f } ∷ []) (all_kept m law closed (start_path d.head) around d.selected known h)

  rooted_left : (r : Option ℕ) (s next : State) → m.root (operation_of d.head) ≡ r → (rooted m d r s next).errors ≡ [] → Left d true (rooted m d r s next).kept
  rooted_left None s next e h = no_cons _ _ h
  rooted_left (Some around) s next e h = whole around (closed.roots (operation_of d.head) around e) h

  anonymous_left : (s : State) (a : Option ℕ) (ns : List Taken) → (add_anonymous m s d a ns).errors ≡ [] → Left d true (add_anonymous m s d a ns).kept
  anonymous_left s (Some at) ns h = no_cons _ _ (both_nil _ _ h).1
  anonymous_left s None (n ∷ ns) h = no_cons _ _ h
  anonymous_left s None [] h = rooted_left (m.root (operation_of d.head)) s (with_anonymous s d.head) refl h

  named_left : (s : State) (o : Option ℕ) → (add_named m s d o).errors ≡ [] → Left d true (add_named m s d o).kept
  named_left s (Some at) h = no_cons _ _ h
  named_left s None h = rooted_left (m.root (operation_of d.head)) s (with_operation s d.head) refl h

  fragment_left : (s : State) (o : Option ℕ) (b : Bool) → m.known d.head.condition ≡ b → (add_fragment m s d o b).errors ≡ [] → Left d true (add_fragment m s d o b).kept
  fragment_left s (Some at) b e h = no_cons _ _ h
  fragment_left s None false e h = no_cons _ _ h
  fragment_left s None true e h = whole d.head.condition e h

  step_left : (s : State) (w : Role) → (step_of w m s d).errors ≡ [] → Left d (operation_role w || fragment_role w) (step_of w m s d).kept
  step_left s anonymous_operation h = anonymous_left s s.anonymous s.operations h
  step_left s named_operation h = named_left s (taken_at d.head.name s.operations) (both_nil (beside s.anonymous) _ h).1
  step_left s fragment h = fragment_left s (taken_at d.head.name s.fragments) (m.known d.head.condition) refl h
  step_left s type_system h = refl

kept_whole : (m : Meaning) → Lawful m → Closed m → (s : State) (ds : List Accepted) → errors_from m s ds ≡ [] → map handed_for (kept_from m s ds) ≡ map definition_of (filter is_executable ds)
kept_whole m law closed s [] h = refl
kept_whole m law closed s (d ∷ ds) h =
    let two = both_nil (step m s d).errors _ h in
    let one = step_left m law closed d s (role_of d.head) two.0 in
    let rest = kept_whole m law closed (step m s d).next ds two.1 in
    map-append handed_for (step m s d).kept _ ∙ rw (one, rest) (front definition_of (is_executable d) d (filter is_executable ds))

pub valid_is_kept_whole : ValidIsKeptWhole
valid_is_kept_whole m law closed ds v = kept_whole m law closed fresh ds ((no_errors_exactly_when_valid m law closed ds).1 v)

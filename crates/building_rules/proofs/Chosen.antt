-- What is kept are the chosen definitions, and no others are chosen.
use Rattle.std.proofs.Common.{◌≡◌, ℕ, Bool, true, false, cond, eqb, ◌≢◌, List, [], ◌∷◌, ◌++◌, Some, None, Option, sym, refl, ◌∙◌, append-nil}
use Rattle.std.specs.Option.{option_or}
use Rattle.std.proofs.lemmas.Bool.{eqb-true, eqb-false, false≢true, true≢false}
use Rattle.schema.specs.Meaning.{Meaning}
use Rattle.building_rules.specs.Definitions.{Accepted, Role, anonymous_operation, named_operation, fragment, type_system, role_of, operation_of, Kept, Taken, taken, taken_at, State, fresh, Outcome, step, kept_from}
use Rattle.building_rules.specs.Rules.{operation_role, anonymous_role, named_role, fragment_role}
use Rattle.building_rules.specs.Chosen.{NoOperation, NoneNamed, ToKeep, Chosen, KeptAreChosen}
use Rattle.building_rules.proofs.Rows.{no_cons, both_nil}
use Rattle.building_rules.proofs.Steps.{Stores, as_anonymous, as_named, as_fragment, Becomes, becomes}
use Rattle.building_rules.proofs.Read.{names_kept, anonymous_kept, Tells, first_push, tells_step}

-- Names that are taken are names that are kept

none_both : {A : Type 0} (a b : Option A) → option_or a b ≡ None → (a ≡ None) × (b ≡ None)
none_both None b e = (refl, e)
none_both (Some a) b e = cc

taken_join : (n : ℕ) (xs ys : List Taken) → taken_at n (xs ++ ys) ≡ option_or (taken_at n xs) (taken_at n ys)
taken_join n [] ys = refl
taken_join n (t ∷ xs) ys = rw (taken_join n xs ys) (first_push (eqb n t.name) t.location (taken_at n xs) (taken_at n ys))

-- a kept definition, by whether it is of the role and whether it has the name
other_name : (n : ℕ) (k : Kept) (b c : Bool) → eqb n k.head.name ≡ c → taken_at n (cond b (taken k.head ∷ []) []) ≡ None → b ≡ true → k.head.name ≢ n
other_name n k true true e f g = let h = rw e at f in λ same. cc
other_name n k true false e f g = λ same. eqb-false n k.head.name e (sym same)
other_name n k false c e f g = absurd (false≢true g)

not_taken : (n : ℕ) (k : Kept) (b c : Bool) → eqb n k.head.name ≡ c → (b ≡ true → k.head.name ≢ n) → taken_at n (cond b (taken k.head ∷ []) []) ≡ None
not_taken n k true true e h = absurd (h refl (sym (eqb-true n k.head.name e)))
not_taken n k true false e h = rw e refl
not_taken n k false c e h = refl

none_named : (test : Role → Bool) (n : ℕ) (ks : List Kept) → taken_at n (names_kept test ks) ≡ None → NoneNamed test n ks
none_named test n [] e = tt
none_named test n (k ∷ ks) e =
    let own = cond (test (role_of k.head)) (taken k.head ∷ []) [] in
    let two = none_both _ _ (sym (taken_join n (names_kept test ks) own) ∙ e) in
    (other_name n k (test (role_of k.head)) (eqb n k.head.name) refl two.1, none_named test n ks two.0)

none_taken : (test : Role → Bool) (n : ℕ) (ks : List Kept) → NoneNamed test n ks → taken_at n (names_kept test ks) ≡ None
none_taken test n [] h = refl
none_taken test n (k ∷ ks) h =
    let own = cond (test (role_of k.head)) (taken k.head ∷ []) [] in
    taken_join n (names_kept test ks) own ∙ rw (none_taken test n ks h.1) (not_taken n k (test (role_of k.head)) (eqb n k.head.name) refl h.0)

-- No operation

no_role : (w : Role) (k : Kept) (a : Option ℕ) (ns : List Taken) → cond (anonymous_role w) (Some k.head.location) a ≡ None → ns ++ cond (named_role w) (taken k.head ∷ []) [] ≡ [] → (operation_role w ≡ false) × (a ≡ None) × (ns ≡ [])
no_role anonymous_operation k a ns e f = cc
no_role named_operation k a ns e f = no_cons _ _ (both_nil ns _ f).1
no_role fragment k a ns e f = (refl, e, (both_nil ns [] f).0)
no_role type_system k a ns e f = (refl, e, (both_nil ns [] f).0)

role_free : (w : Role) (k : Kept) (a : Option ℕ) (ns : List Taken) → operation_role w ≡ false → (a ≡ None) × (ns ≡ []) → (cond (anonymous_role w) (Some k.head.location) a ≡ None) × (ns ++ cond (named_role w) (taken k.head ∷ []) [] ≡ [])
role_free anonymous_operation k a ns e f = absurd (true≢false e)
role_free named_operation k a ns e f = absurd (true≢false e)
role_free fragment k a ns e f = (f.0, rw f.1 refl)
role_free type_system k a ns e f = (f.0, rw f.1 refl)

no_operation : (ks : List Kept) → anonymous_kept ks ≡ None → names_kept named_role ks ≡ [] → NoOperation ks
no_operation [] e f = tt
no_operation (k ∷ ks) e f =
    let three = no_role (role_of k.head) k (anonymous_kept ks) (names_kept named_role ks) e f in
    (three.0, no_operation ks three.1 three.2)

operations_free : (ks : List Kept) → NoOperation ks → (anonymous_kept ks ≡ None) × (names_kept named_role ks ≡ [])
operations_free [] h = (refl, refl)
operations_free (k ∷ ks) h = role_free (role_of k.head) k (anonymous_kept ks) (names_kept named_role ks) h.0 (operations_free ks h.1)

-- Definitions

module _ (m : Meaning) (s : State) (d : Accepted) (ks : List Kept) (t : Tells s ks) where
  to_keep : (around : ℕ) → Stores m s d around → ToKeep m ks d around
  to_keep n (as_anonymous around w a b r) = ToKeep.anonymous around w (no_operation ks (sym t.anonymous ∙ a) (sym t.operations ∙ b)) r
  to_keep n (as_named around w f r) = ToKeep.named around w (none_named named_role d.head.name ks (rw t.operations at f)) r
  to_keep n (as_fragment w f k) = ToKeep.on_condition w (none_named fragment_role d.head.name ks (rw t.fragments at f)) k

  stores : (around : ℕ) → ToKeep m ks d around → Stores m s d around
  stores n (ToKeep.anonymous around w h r) =
      let two = operations_free ks h in
      as_anonymous around w (t.anonymous ∙ two.0) (t.operations ∙ two.1) r
  stores n (ToKeep.named around w h r) = as_named around w (rw t.operations (none_taken named_role d.head.name ks h)) r
  stores n (ToKeep.on_condition w h k) = as_fragment w (rw t.fragments (none_taken fragment_role d.head.name ks h)) k

  chosen_step : (o : Outcome) (ds : List Accepted) (rest : List Kept) → Becomes m s d o → Chosen m (ks ++ o.kept) ds rest → Chosen m ks (d ∷ ds) (o.kept ++ rest)
  chosen_step o ds rest (Becomes.stays around h k e) c = rw k (Chosen.kept around (to_keep around h) (rw k at c))
  chosen_step o ds rest (Becomes.passes k e never) c =
      rw k (Chosen.left_out (λ around h. never around (stores around h)) (rw (k, append-nil) at c))

chosen : (m : Meaning) (s : State) (ds : List Accepted) (ks : List Kept) → Tells s ks → Chosen m ks ds (kept_from m s ds)
chosen m s [] ks t = Chosen.nothing
chosen m s (d ∷ ds) ks t =
    chosen_step m s d ks t (step m s d) ds (kept_from m (step m s d).next ds) (becomes m s d)
    (chosen m (step m s d).next ds (ks ++ (step m s d).kept) (tells_step m s d ks t (step m s d) (becomes m s d)))

-- a definition is kept with one type
module _ (m : Meaning) (before : List Kept) (d : Accepted) where
  one_root : (around other : ℕ) → m.root (operation_of d.head) ≡ Some around → m.root (operation_of d.head) ≡ Some other → around ≡ other
  one_root around other e f = cc

  one_type : (a b : ℕ) → ToKeep m before d a → ToKeep m before d b → a ≡ b
  one_type a b (ToKeep.anonymous around w h r) (ToKeep.anonymous other v g q) = one_root around other r q
  one_type a b (ToKeep.anonymous around w h r) (ToKeep.named other v g q) = cc
  one_type a b (ToKeep.anonymous around w h r) (ToKeep.on_condition v g k) = cc
  one_type a b (ToKeep.named around w h r) (ToKeep.anonymous other v g q) = cc
  one_type a b (ToKeep.named around w h r) (ToKeep.named other v g q) = one_root around other r q
  one_type a b (ToKeep.named around w h r) (ToKeep.on_condition v g k) = cc
  one_type a b (ToKeep.on_condition w h r) (ToKeep.anonymous other v g q) = cc
  one_type a b (ToKeep.on_condition w h r) (ToKeep.named other v g q) = cc
  one_type a b (ToKeep.on_condition w h r) (ToKeep.on_condition v g k) = refl

only_chosen : (m : Meaning) {before : List Kept} {ds : List Accepted} {ks ls : List Kept} → Chosen m before ds ks → Chosen m before ds ls → ks ≡ ls
only_chosen m Chosen.nothing Chosen.nothing = refl
only_chosen m (Chosen.kept {before} {d} {ds} {ks} around h c) (Chosen.kept other g e) =
    let same : other ≡ around = one_type m before d other around g h in
    let rest = only_chosen m c (rw same at e) in
    rw (same, rest) refl
only_chosen m (Chosen.kept around h c) (Chosen.left_out never e) = absurd (never around h)
only_chosen m (Chosen.left_out never c) (Chosen.kept around h e) = absurd (never around h)
only_chosen m (Chosen.left_out never c) (Chosen.left_out again e) = only_chosen m c e

pub kept_are_chosen : KeptAreChosen
kept_are_chosen m ds ks =
    let all = chosen m fresh ds [] (record { anonymous = refl; operations = refl; fragments = refl }) in
    (λ c. only_chosen m c all, λ e. rw e all)

-- The state after definitions is read off what is kept of them.
use Rattle.std.proofs.Common.{◌≡◌, ℕ, Bool, true, false, cond, List, [], ◌∷◌, ◌++◌, Some, None, Option, sym, refl, ap, ◌∙◌, append_assoc, append-nil}
use Rattle.std.specs.Option.{option_or}
use Rattle.schema.specs.Meaning.{Meaning}
use Rattle.building_rules.specs.Definitions.{Accepted, Role, role_of, Kept, Taken, taken, State, Outcome}
use Rattle.building_rules.specs.Rules.{anonymous_role, named_role, fragment_role}
use Rattle.building_rules.specs.Chosen.{kept_with}
use Rattle.building_rules.proofs.Definitions.{advance}
use Rattle.building_rules.proofs.Steps.{Stores, anonymous_free, Becomes}

-- the names of the kept definitions of a role, the latest first
abbrev pub names_kept : (Role → Bool) → List Kept → List Taken
names_kept test [] = []
names_kept test (k ∷ ks) = names_kept test ks ++ cond (test (role_of k.head)) (taken k.head ∷ []) []

-- where the kept anonymous operation stands
abbrev pub anonymous_kept : List Kept → Option ℕ
anonymous_kept [] = None
anonymous_kept (k ∷ ks) = cond (anonymous_role (role_of k.head)) (Some k.head.location) (anonymous_kept ks)

-- a state tells of the definitions that are kept
pub record Tells (s : State) (ks : List Kept) : Type 0 where
  pub anonymous : s.anonymous ≡ anonymous_kept ks
  pub operations : s.operations ≡ names_kept named_role ks
  pub fragments : s.fragments ≡ names_kept fragment_role ks

first_none : {A : Type 0} (a : Option A) → option_or a None ≡ a
first_none None = refl
first_none (Some a) = refl

pub names_join : (test : Role → Bool) (xs ys : List Kept) → names_kept test (xs ++ ys) ≡ names_kept test ys ++ names_kept test xs
names_join test [] ys = simp append-nil
names_join test (k ∷ xs) ys =
    ap (λ (l : List Taken). l ++ cond (test (role_of k.head)) (taken k.head ∷ []) []) (names_join test xs ys) ∙ append_assoc (names_kept test ys) _ _

pub first_push : (b : Bool) (at : ℕ) (a c : Option ℕ) → cond b (Some at) (option_or a c) ≡ option_or (cond b (Some at) a) c
first_push true at a c = refl
first_push false at a c = refl

pub anonymous_join : (xs ys : List Kept) → anonymous_kept (xs ++ ys) ≡ option_or (anonymous_kept xs) (anonymous_kept ys)
anonymous_join [] ys = refl
anonymous_join (k ∷ xs) ys = rw (anonymous_join xs ys) (first_push (anonymous_role (role_of k.head)) k.head.location (anonymous_kept xs) (anonymous_kept ys))

name_more : (b : Bool) (t : Taken) (ts us : List Taken) → ts ≡ us → cond b (t ∷ ts) ts ≡ cond b (t ∷ []) [] ++ us
name_more true t ts us e = rw e refl
name_more false t ts us e = e

anonymous_more : (b : Bool) (at : ℕ) (a c : Option ℕ) → (b ≡ true → a ≡ None) → a ≡ c → cond b (Some at) a ≡ option_or c (cond b (Some at) None)
anonymous_more true at a c free e = rw (← e, free refl) refl
anonymous_more false at a c free e = rw e (sym (first_none c))

module _ (m : Meaning) (s : State) (d : Accepted) (ks : List Kept) (t : Tells s ks) where
  tells_more : (around : ℕ) → Stores m s d around → Tells (advance s d (role_of d.head)) (ks ++ kept_with m d around ∷ [])
  tells_more around h =
      record {
        anonymous = rw anonymous_join (anonymous_more (anonymous_role (role_of d.head)) d.head.location s.anonymous (anonymous_kept ks) (anonymous_free m s d h) t.anonymous);
        operations = rw names_join (name_more (named_role (role_of d.head)) (taken d.head) s.operations (names_kept named_role ks) t.operations);
        fragments = rw names_join (name_more (fragment_role (role_of d.head)) (taken d.head) s.fragments (names_kept fragment_role ks) t.fragments);
      }

  pub tells_step : (o : Outcome) → Becomes m s d o → Tells o.next (ks ++ o.kept)
  tells_step o (Becomes.stays around h k e) = rw (k, e) (tells_more around h)
  tells_step o (Becomes.passes k e never) =
      rw (k, append-nil)
      (record { anonymous = e.anonymous ∙ t.anonymous; operations = e.operations ∙ t.operations; fragments = e.fragments ∙ t.fragments })

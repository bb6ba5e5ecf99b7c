-- What is kept of definitions keeps the rules of what is stored, and no name is kept twice.
use Rattle.std.proofs.Common.{◌≡◌, ℕ, suc, ◌+◌, ◌≤◌, max, Bool, true, false, cond, eqb, List, [], ◌∷◌, ◌++◌, Some, None, Option, sym, refl, ◌∙◌, arith}
use Rattle.std.proofs.Math.Bool.{and-false}
use Rattle.std.proofs.ByRecursion.{All-append}
use Rattle.std.proofs.lemmas.Bool.{eqb-true, eq-eqb, or_from, false≢true, true≢false}
use Rattle.std.specs.List.{AllByRecursion}
use Rattle.layout.specs.Forest.{Forest, none, row, size, depth, Each}
use Rattle.layout.specs.Shapes.{Keeps}
use Rattle.document.specs.Rows.{Selection, Head, selection_rules, selection_broken, is_field, is_spread, is_inline}
use Rattle.schema.specs.Meaning.{Meaning}
use Rattle.selection_rules.specs.declared.settling.Settled.{Settled}
use Rattle.selection_rules.specs.declared.settling.Settled.TheVariants as settles
use Rattle.selection_rules.specs.Stored.{field, spread, inline, form_of, Stored, answers_broken, stored_rules}
use Rattle.selection_rules.specs.Sets.{some_row, settled_in, keep, build}
use Rattle.building_rules.specs.Definitions.{Accepted, Role, role_of, Kept, Taken, taken, taken_at, State, fresh, Outcome, step, kept_from, state_after}
use Rattle.building_rules.specs.Rules.{operation_role, anonymous_role, named_role, fragment_role}
use Rattle.building_rules.specs.Keeping.{StoredAs}
use Rattle.building_rules.specs.Storable.{Sound, Storable, kept_named, KeptIsStorable}
use Rattle.building_rules.specs.Chosen.{kept_with}
use Rattle.building_rules.proofs.Settling.{View, stays, drops, faults, view}
use Rattle.building_rules.proofs.Fits.{build_small}
use Rattle.building_rules.proofs.Steps.{Stores, as_anonymous, as_named, as_fragment, operation_free, fragment_free, anonymous_free, Becomes, becomes}

-- Rows

field_told : (b c : Bool) → cond b field (cond c spread inline) ≡ field → b ≡ true
field_told true c e = refl
field_told false true e = cc
field_told false false e = cc

spread_told : (b c : Bool) → cond b field (cond c spread inline) ≡ spread → c ≡ true
spread_told true c e = cc
spread_told false true e = refl
spread_told false false e = cc

inline_told : (b c : Bool) → cond b field (cond c spread inline) ≡ inline → c ≡ false
inline_told true c e = cc
inline_told false true e = cc
inline_told false false e = refl

-- as a selection is stored, it keeps the rules on places and set types
record Whole (s : Selection) (x : Stored) : Type 0 where
  selection : x.selection ≡ s
  answers : answers_broken x ≡ false

module _ (m : Meaning) (t : ℕ) (s : Selection) where
  whole : {x : Stored} → StoredAs m t s x → Whole s x
  whole (StoredAs.of_field y f e) =
      let kind : s.kind ≡ 1 = eqb-true s.kind 1 (field_told (is_field s) (is_spread s) f) in
      record { selection = refl; answers = rw kind refl }
  whole (StoredAs.of_spread f) =
      let kind : s.kind ≡ 2 = eqb-true s.kind 2 (spread_told (is_field s) (is_spread s) f) in
      record { selection = refl; answers = rw kind refl }
  whole (StoredAs.of_condition f n) =
      record { selection = refl; answers = rw (inline_told (is_field s) (is_spread s) f) (and-false (is_inline s)) }
  whole (StoredAs.of_around f n) =
      record { selection = refl; answers = rw (inline_told (is_field s) (is_spread s) f) (and-false (is_inline s)) }

stored_keeps : {s : Selection} {x : Stored} (below : Forest Selection) (under : Forest Stored) → Whole s x → size under ≤ size below → Keeps selection_rules s below → Keeps stored_rules x under
stored_keeps {s} {x} below under w small k =
    record {
      named = rw w.selection k.named;
      whole = or_from (selection_broken x.selection) (answers_broken x) (rw w.selection k.whole) w.answers;
      leaf = λ e. let bare = k.leaf (rw w.selection at e) in omega arith;
    }

keep_shallow : (w : Settled) (s : Selection) (below : ℕ → Forest Stored) (after : Forest Stored) (n : ℕ) → ((i : ℕ) → depth (below i) ≤ n) → depth (keep w s below after) ≤ max (suc n) (depth after)
keep_shallow (settles.Kept place inner) s below after n h = omega (arith, h inner)
keep_shallow settles.Dropped s below after n h = omega arith
keep_shallow (settles.Faulty fault) s below after n h = omega arith

module _ (m : Meaning) where
  row_keeps : (around : ℕ) (s : Selection) (below after : Forest Selection) (w : Settled) → View m around s below (form_of s) w
      → Keeps selection_rules s below → ((inner : ℕ) → Each (Keeps stored_rules) (build m inner below)) → Each (Keeps stored_rules) (build m around after)
      → Each (Keeps stored_rules) (keep w s (λ inner. build m inner below) (build m around after))
  row_keeps around s below after w (stays place inner fit inside one_inside shape one-shape) k lower next =
      (stored_keeps below (build m inner below) (whole m around s shape) (build_small m inner below) k, lower inner, next)
  row_keeps around s below after w (drops e unfit) k lower next = next
  row_keeps around s below after w (faults fault unfit) k lower next = next

  -- what is stored of selections that keep their rules keeps the rules of stored ones
  pub build_keeps : (around : ℕ) (f : Forest Selection) → Each (Keeps selection_rules) f → Each (Keeps stored_rules) (build m around f)
  build_keeps around none h = tt
  build_keeps around (row s below after) h =
      row_keeps around s below after (settled_in m around s (some_row below)) (view m around s below) h.0 (λ inner. build_keeps inner below h.1) (build_keeps around after h.2)

  -- and is no deeper
  pub build_shallow : (around : ℕ) (f : Forest Selection) → depth (build m around f) ≤ depth f
  build_shallow around none = omega arith
  build_shallow around (row s below after) =
      let one = keep_shallow (settled_in m around s (some_row below)) s (λ inner. build m inner below) (build m around after) (depth below) (λ inner. build_shallow inner below) in
      let rest = build_shallow around after in
      omega arith

-- Names

-- how many definitions a name has room for, by where it is taken
abbrev room : Option ℕ → ℕ
room None = 1
room (Some at) = 0

room_few : (o : Option ℕ) → room o ≤ 1
room_few None = omega arith
room_few (Some at) = omega arith

-- a name that is free is taken by one definition
took : (n : ℕ) (h : Head) (seen : List Taken) (b c : Bool) → eqb h.name n ≡ b → eqb n h.name ≡ c → taken_at h.name seen ≡ None → cond b 1 0 + room (cond c (Some h.name_location) (taken_at n seen)) ≤ room (taken_at n seen)
took n h seen true true e f free = let same : h.name ≡ n = eqb-true h.name n e in rw (← same, free) (omega arith)
took n h seen true false e f free = absurd (false≢true (sym f ∙ eq-eqb n h.name (sym (eqb-true h.name n e))))
took n h seen false true e f free = omega arith
took n h seen false false e f free = omega arith

took_if : (b : Bool) (n : ℕ) (h : Head) (seen : List Taken) → (b ≡ true → taken_at h.name seen ≡ None) → cond b (cond (eqb h.name n) 1 0) 0 + room (taken_at n (cond b (taken h ∷ seen) seen)) ≤ room (taken_at n seen)
took_if true n h seen free = took n h seen (eqb h.name n) (eqb n h.name) refl refl (free refl)
took_if false n h seen free = omega arith

lone_if : (b c : Bool) (at : ℕ) (a : Option ℕ) → (b ≡ true → a ≡ None) → cond b (cond c 1 0) 0 + room (cond b (Some at) a) ≤ room a
lone_if true true at a free = rw (free refl) (omega arith)
lone_if true false at a free = omega arith
lone_if false c at a free = omega arith

kept_named_join : (test : Role → Bool) (n : ℕ) (xs ys : List Kept) → kept_named test n (xs ++ ys) ≡ kept_named test n xs + kept_named test n ys
kept_named_join test n [] ys = omega arith
kept_named_join test n (k ∷ xs) ys = let rest = kept_named_join test n xs ys in omega arith

-- what is kept from a state on: each keeps the rules, and takes a name that is free
record Roomy (s t : State) (ks : List Kept) : Type 0 where
  each : AllByRecursion Storable ks
  operations : (n : ℕ) → kept_named named_role n ks + room (taken_at n t.operations) ≤ room (taken_at n s.operations)
  fragments : (n : ℕ) → kept_named fragment_role n ks + room (taken_at n t.fragments) ≤ room (taken_at n s.fragments)
  anonymous : (n : ℕ) → kept_named anonymous_role n ks + room t.anonymous ≤ room s.anonymous

module _ (m : Meaning) (s : State) (d : Accepted) where
  is_executable : {around : ℕ} → Stores m s d around → operation_role (role_of d.head) ≡ false → fragment_role (role_of d.head) ≡ true
  is_executable (as_anonymous around w a b r) e = absurd (true≢false (rw w at e))
  is_executable (as_named around w f r) e = absurd (true≢false (rw w at e))
  is_executable (as_fragment w f k) e = rw w refl

  on_condition : {around : ℕ} → Stores m s d around → fragment_role (role_of d.head) ≡ true → around ≡ d.head.condition
  on_condition (as_anonymous around w a b r) e = absurd (false≢true (rw w at e))
  on_condition (as_named around w f r) e = absurd (false≢true (rw w at e))
  on_condition (as_fragment w f k) e = refl

  storable : (around : ℕ) → Sound d → Stores m s d around → Storable (kept_with m d around)
  storable around sound h =
      record {
        named = sound.named;
        whole = sound.whole;
        executable = is_executable h;
        condition = on_condition h;
        rows = build_keeps m around d.selected sound.selections;
        shallow = omega (arith, build_shallow m around d.selected, sound.shallow);
      }

  one_roomy : (o : Outcome) → Sound d → Becomes m s d o → Roomy s o.next o.kept
  one_roomy o sound (Becomes.stays around h k e) =
      rw (k, e)
      (record {
        each = (storable around sound h, tt);
        operations = λ n. let one = took_if (named_role (role_of d.head)) n d.head s.operations (operation_free m s d h) in omega arith;
        fragments = λ n. let one = took_if (fragment_role (role_of d.head)) n d.head s.fragments (fragment_free m s d h) in omega arith;
        anonymous = λ n. let one = lone_if (anonymous_role (role_of d.head)) (eqb d.head.name n) d.head.location s.anonymous (anonymous_free m s d h) in omega arith;
      })
  one_roomy o sound (Becomes.passes k e never) =
      rw k
      (record {
        each = tt;
        operations = λ n. rw e.operations (omega arith);
        fragments = λ n. rw e.fragments (omega arith);
        anonymous = λ n. rw e.anonymous (omega arith);
      })

-- one after the other
roomy_join : (s t u : State) (xs ys : List Kept) → Roomy s t xs → Roomy t u ys → Roomy s u (xs ++ ys)
roomy_join s t u xs ys r q =
    record {
      each = All-append Storable xs ys r.each q.each;
      operations = λ n. omega (arith, kept_named_join named_role n xs ys, r.operations n, q.operations n);
      fragments = λ n. omega (arith, kept_named_join fragment_role n xs ys, r.fragments n, q.fragments n);
      anonymous = λ n. omega (arith, kept_named_join anonymous_role n xs ys, r.anonymous n, q.anonymous n);
    }

roomy : (m : Meaning) (s : State) (ds : List Accepted) → AllByRecursion Sound ds → Roomy s (state_after m s ds) (kept_from m s ds)
roomy m s [] h = record { each = tt; operations = λ n. omega arith; fragments = λ n. omega arith; anonymous = λ n. omega arith }
roomy m s (d ∷ ds) h =
    roomy_join s (step m s d).next (state_after m s (d ∷ ds)) (step m s d).kept (kept_from m (step m s d).next ds)
    (one_roomy m s d (step m s d) h.0 (becomes m s d)) (roomy m (step m s d).next ds h.1)

pub kept_is_storable : KeptIsStorable
kept_is_storable m ds h =
    let all = roomy m fresh ds h in
    record {
      each = all.each;
      operations = λ n. omega (arith, all.operations n);
      fragments = λ n. omega (arith, all.fragments n);
      anonymous = λ n. omega (arith, all.anonymous n);
    }

-- How many places definitions can need: errors, path keys, stored rows and stored definitions.
use Rattle.std.proofs.Common.{◌≡◌, ℕ, suc, ◌+◌, ◌≤◌, Bool, true, false, cond, List, [], ◌∷◌, ◌++◌, length, Some, None, sum_by, count_by, Option, refl, ap, ◌∙◌, append_assoc, arith, length-append}
use Rattle.std.proofs.lemmas.List.Sums.{sum_by-cons, sum_by-append}
use Rattle.layout.specs.Forest.{Forest, none, row, size}
use Rattle.document.specs.Rows.{Selection, Head, is_field, is_spread, is_fragment}
use Rattle.document.specs.Rows.{named_operation as has-name}
use Rattle.document.specs.Document.{Definition}
use Rattle.document.specs.Needs.{way, forest_keys, rows_in}
use Rattle.document.specs.Needs.{keys_in as document_keys}
use Rattle.schema.specs.Meaning.{Meaning}
use Rattle.selection_rules.specs.declared.settling.SelectionFault.{SelectionFault}
use Rattle.selection_rules.specs.declared.settling.SelectionFault.TheVariants.{UnknownCondition, OnScalar, OnEnum, UnknownField}
use Rattle.selection_rules.specs.declared.settling.Settled.{Settled}
use Rattle.selection_rules.specs.declared.settling.Settled.TheVariants as settles
use Rattle.selection_rules.specs.Stored.{field, spread, inline, Stored}
use Rattle.selection_rules.specs.Sets.{settled_in}
use Rattle.selection_rules.specs.Errors.{Path, Error, keys_of, keys_in}
use Rattle.selection_rules.specs.Sets.{path_in, path_to, some_row, error_of, listed, errors, keep, build}
use Rattle.building_rules.specs.Definitions.{Accepted, accepted_from, Role, anonymous_operation, named_operation, fragment, type_system, role_of, operation_of, start_path, Kept, Taken, taken_at, State, with_anonymous, with_operation, with_fragment, with_multiple, Outcome, stored, rooted, add_anonymous, add_named, add_fragment, add_type_system, beside, before, step_of, step, errors_from, kept_from}
use Rattle.building_rules.specs.Bounds.{rows_of, path_keys_of, rows_kept, BuildsFit, NeedsOfDocuments}

-- Selections

-- the keys of errors one after the other
pub keys_join : (xs ys : List Error) → keys_in (xs ++ ys) ≡ keys_in xs ++ keys_in ys
keys_join [] ys = refl
keys_join (e ∷ xs) ys = ap (λ (l : List ℕ). keys_of e ++ l) (keys_join xs ys) ∙ rw append_assoc refl

-- the path of a selection has a key for each field on the way to it
way_as : (p : Path) (s : Selection) (b c : Bool) → length (path_in (cond b field (cond c spread inline)) p s).keys ≡ length p.keys + cond b 1 0
way_as p s true c = simp length-append
way_as p s false true = omega arith
way_as p s false false = omega arith

pub way_long : (p : Path) (s : Selection) → length (path_to p s).keys ≡ way (length p.keys) s
way_long p s = way_as p s (is_field s) (is_spread s)

-- the path keys of an error are those of its path
pub fault_keys : (fault : SelectionFault) (p : Path) (around : ℕ) (s : Selection) → keys_of (error_of fault p around s) ≡ p.keys
fault_keys UnknownCondition p around s = refl
fault_keys (OnScalar type-name) p around s = refl
fault_keys (OnEnum type-name) p around s = refl
fault_keys UnknownField p around s = refl

listed_few : (w : Settled) (p : Path) (around : ℕ) (s : Selection) (k : ℕ → List Error) (n : ℕ) → ((i : ℕ) → length (k i) ≤ n) → length (listed w p around s k) ≤ suc n
listed_few (settles.Kept place inner) p around s k n h = omega (arith, h inner)
listed_few settles.Dropped p around s k n h = omega arith
listed_few (settles.Faulty fault) p around s k n h = omega arith

listed_keys : (w : Settled) (p : Path) (around : ℕ) (s : Selection) (k : ℕ → List Error) (n : ℕ) → ((i : ℕ) → length (keys_in (k i)) ≤ n) → length (keys_in (listed w p around s k)) ≤ length p.keys + n
listed_keys (settles.Kept place inner) p around s k n h = omega (arith, h inner)
listed_keys settles.Dropped p around s k n h = omega arith
listed_keys (settles.Faulty fault) p around s k n h =
    let own : length (keys_of (error_of fault p around s)) ≡ length p.keys = ap length (fault_keys fault p around s) in
    simp length-append (omega arith)

keep_small : (w : Settled) (s : Selection) (below : ℕ → Forest Stored) (after : Forest Stored) (n : ℕ) → ((i : ℕ) → size (below i) ≤ n) → size (keep w s below after) ≤ suc (n + size after)
keep_small (settles.Kept place inner) s below after n h = omega (arith, h inner)
keep_small settles.Dropped s below after n h = omega arith
keep_small (settles.Faulty fault) s below after n h = omega arith

module _ (m : Meaning) where
  -- at most one error for each selection
  pub errors_few : (p : Path) (around : ℕ) (f : Forest Selection) → length (errors m p around f) ≤ size f
  errors_few p around none = omega arith
  errors_few p around (row s below after) =
      let one = listed_few (settled_in m around s (some_row below)) (path_to p s) around s (λ inner. errors m (path_to p s) inner below) (size below) (λ inner. errors_few (path_to p s) inner below) in
      let rest = errors_few p around after in
      simp length-append (omega arith)

  -- at most the keys of its path for each selection
  pub keys_few : (p : Path) (around : ℕ) (f : Forest Selection) → length (keys_in (errors m p around f)) ≤ forest_keys (length p.keys) f
  keys_few p around none = omega arith
  keys_few p around (row s below after) =
      let q = path_to p s in
      let long = way_long p s in
      let lower : (inner : ℕ) → length (keys_in (errors m q inner below)) ≤ forest_keys (way (length p.keys) s) below =
      λ inner. rw long at (keys_few q inner below) in
      let one = listed_keys (settled_in m around s (some_row below)) q around s (λ inner. errors m q inner below) _ lower in
      let rest = keys_few p around after in
      rw keys_join (simp length-append (omega arith))

  -- at most the selections that were handed in
  pub build_small : (around : ℕ) (f : Forest Selection) → size (build m around f) ≤ size f
  build_small around none = omega arith
  build_small around (row s below after) =
      let one = keep_small (settled_in m around s (some_row below)) s (λ inner. build m inner below) (build m around after) (size below) (λ inner. build_small inner below) in
      let rest = build_small around after in
      omega arith

-- Definitions

-- what one definition comes to, where so many errors are not of its selections
record FitsOne (n : ℕ) (d : Accepted) (o : Outcome) : Type 0 where
  few : length o.errors ≤ n + size d.selected
  keys : length (keys_in o.errors) ≤ forest_keys 0 d.selected
  rows : rows_kept o.kept ≤ size d.selected
  heads : (p : Head → Bool) → sum_by (λ k. cond (p k.head) 1 0) o.kept ≤ cond (p d.head) 1 0

more_room : (d : Accepted) (o : Outcome) (n k : ℕ) → n ≤ k → FitsOne n d o → FitsOne k d o
more_room d o n k h one = record { few = omega (arith, one.few); keys = one.keys; rows = one.rows; heads = one.heads }

module _ (m : Meaning) (d : Accepted) where
  -- nothing is kept
  leaves : (n : ℕ) (es : List Error) (next : State) → length es ≤ n → keys_in es ≡ [] → FitsOne n d (record { errors = es; kept = []; next = next })
  leaves n es next short bare =
      let none : length (keys_in es) ≡ 0 = ap length bare in
      record { few = omega arith; keys = omega arith; rows = omega arith; heads = λ p. omega arith }

  stores : (around : ℕ) (next : State) → FitsOne 0 d (stored m d around next)
  stores around next =
      record {
        few = omega (arith, errors_few m (start_path d.head) around d.selected);
        keys = keys_few m (start_path d.head) around d.selected;
        rows = omega (arith, build_small m around d.selected);
        heads = λ p. omega arith;
      }

  rooted_fits : (r : Option ℕ) (s next : State) → FitsOne 1 d (rooted m d r s next)
  rooted_fits None s next = leaves 1 _ s (omega arith) refl
  rooted_fits (Some around) s next = more_room d _ 0 1 (omega arith) (stores around next)

  twice_fits : (b : Bool) (s : State) (at : ℕ) (names : List Taken) → s.multiple ≡ b → FitsOne 2 d (add_anonymous m s d (Some at) names)
  twice_fits true s at names e = leaves 2 _ (with_multiple s) (rw e (omega arith)) (rw e refl)
  twice_fits false s at names e = leaves 2 _ (with_multiple s) (rw e (omega arith)) (rw e refl)

  anonymous_fits : (s : State) (a : Option ℕ) (names : List Taken) → FitsOne 2 d (add_anonymous m s d a names)
  anonymous_fits s (Some at) names = twice_fits s.multiple s at names refl
  anonymous_fits s None (n ∷ names) = leaves 2 _ s (omega arith) refl
  anonymous_fits s None [] = more_room d _ 1 2 (omega arith) (rooted_fits (m.root (operation_of d.head)) s (with_anonymous s d.head))

  named_fits : (s : State) (o : Option ℕ) → FitsOne 1 d (add_named m s d o)
  named_fits s (Some at) = leaves 1 _ s (omega arith) refl
  named_fits s None = rooted_fits (m.root (operation_of d.head)) s (with_operation s d.head)

  beside_fits : (a : Option ℕ) (o : Outcome) → FitsOne 1 d o → FitsOne 2 d (before (beside a) o)
  beside_fits None o one = more_room d o 1 2 (omega arith) one
  beside_fits (Some at) o one = record { few = omega (arith, one.few); keys = one.keys; rows = one.rows; heads = one.heads }

  fragment_fits : (s : State) (o : Option ℕ) (b : Bool) → FitsOne 2 d (add_fragment m s d o b)
  fragment_fits s (Some at) b = leaves 2 _ s (omega arith) refl
  fragment_fits s None false = leaves 2 _ s (omega arith) refl
  fragment_fits s None true = more_room d _ 0 2 (omega arith) (stores d.head.condition (with_fragment s d.head))

  system_fits : (b : Bool) (s : State) → d.strict ≡ b → FitsOne 2 d (add_type_system s d)
  system_fits true s e = leaves 2 _ s (rw e (omega arith)) (rw e refl)
  system_fits false s e = leaves 2 _ s (rw e (omega arith)) (rw e refl)

  step_fits : (s : State) (w : Role) → FitsOne 2 d (step_of w m s d)
  step_fits s anonymous_operation = anonymous_fits s s.anonymous s.operations
  step_fits s named_operation = beside_fits s.anonymous _ (named_fits s (taken_at d.head.name s.operations))
  step_fits s fragment = fragment_fits s (taken_at d.head.name s.fragments) (m.known d.head.condition)
  step_fits s type_system = system_fits d.strict s refl

pub rows_join : (xs ys : List Kept) → rows_kept (xs ++ ys) ≡ rows_kept xs + rows_kept ys
rows_join [] ys = omega arith
rows_join (k ∷ xs) ys = let rest = rows_join xs ys in omega arith

-- as many definitions are stored, of whatever head, as are handed in
pub heads_fit : (p : Head → Bool) (m : Meaning) (s : State) (ds : List Accepted) → count_by (λ k. p k.head) (kept_from m s ds) ≤ count_by (λ d. p d.head) ds
heads_fit p m s [] = omega arith
heads_fit p m s (d ∷ ds) =
    let own = (step_fits m d s (role_of d.head)).heads p in
    let rest = heads_fit p m (step m s d).next ds in
    let left = sum_by-append (λ k. cond (p k.head) 1 0) (step m s d).kept (kept_from m (step m s d).next ds) in
    let right = sum_by-cons (λ x. cond (p x.head) 1 0) d ds in
    omega arith

pub builds_fit : BuildsFit
builds_fit m s [] = record { operations = omega arith; fragments = omega arith; rows = omega arith; errors = omega arith; path_keys = omega arith }
builds_fit m s (d ∷ ds) =
    let o = step m s d in
    let one : FitsOne 2 d o = step_fits m d s (role_of d.head) in
    let rest = builds_fit m o.next ds in
    record {
      operations = heads_fit has-name m s (d ∷ ds);
      fragments = heads_fit is_fragment m s (d ∷ ds);
      rows = omega (arith, rows_join o.kept (kept_from m o.next ds), one.rows, rest.rows);
      errors = omega (arith, length-append o.errors (errors_from m o.next ds), one.few, rest.errors);
      path_keys = rw keys_join (omega (arith, length-append (keys_in o.errors) (keys_in (errors_from m o.next ds)), one.keys, rest.path_keys));
    }

-- Documents

module _ (strict : Bool) where
  rows_same : (docs : List Definition) → rows_of (accepted_from strict docs) ≡ rows_in docs
  rows_same [] = refl
  rows_same (d ∷ docs) = let rest = rows_same docs in omega arith

  path_keys_same : (docs : List Definition) → path_keys_of (accepted_from strict docs) ≡ document_keys docs
  path_keys_same [] = refl
  path_keys_same (d ∷ docs) = let rest = path_keys_same docs in omega arith

  pub length_accepted : (docs : List Definition) → length (accepted_from strict docs) ≡ length docs
  length_accepted [] = refl
  length_accepted (d ∷ docs) = ap suc (length_accepted docs)

  heads_same : (p : Head → Bool) (docs : List Definition) → count_by (λ d. p d.head) (accepted_from strict docs) ≡ count_by (λ d. p d.head) docs
  heads_same p [] = refl
  heads_same p (d ∷ docs) =
      let rest = heads_same p docs in
      let left = sum_by-cons (λ x. cond (p x.head) 1 0) (record { head = d.head; selected = d.selected; strict = strict }) (accepted_from strict docs) in
      let right = sum_by-cons (λ x. cond (p x.head) 1 0) d docs in
      omega arith

pub needs_of_documents : NeedsOfDocuments
needs_of_documents strict docs =
    rw (heads_same strict has-name docs, heads_same strict is_fragment docs, rows_same strict docs, length_accepted strict docs, path_keys_same strict docs) refl

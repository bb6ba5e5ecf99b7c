-- Names that are taken one by one are each new exactly when each stands once, and the same of an anonymous operation.
use Rattle.std.proofs.Common.{◌≡◌, ℕ, suc, ◌+◌, ◌<◌, ◌≤◌, Bool, true, false, cond, ◌&&◌, eqb, List, [], ◌∷◌, length, Some, None, filter, Option, refl, ap, ⊎_elim, arith}
use Rattle.std.proofs.lemmas.Bool.{eqb-true, eq-eqb, cases_lt}
use Rattle.std.proofs.lemmas.List.{nil_from_length}
use Rattle.std.specs.List.{AllByRecursion}
use Rattle.building_rules.specs.Definitions.{Accepted, Role, anonymous_operation, named_operation, fragment, type_system, role_of, Taken, taken, taken_at}
use Rattle.building_rules.specs.Rules.{operation_role, anonymous_role, named_role, is_anonymous, is_named, operations, anonymous_operations}

abbrev pub named_by : (Accepted → Bool) → ℕ → List Accepted → List Accepted
named_by p n ds = filter (λ d. p d && eqb n d.head.name) ds

-- each definition that passes p has a name that is not taken, and takes it
abbrev pub New : (Accepted → Bool) → List Taken → List Accepted → Type 0
New p seen [] = Unit {0}
New p seen (d ∷ ds) = (p d ≡ true → taken_at d.head.name seen ≡ None) × New p (cond (p d) (taken d.head ∷ seen) seen) ds

abbrev pub tally : ℕ → List Taken → ℕ
tally n [] = 0
tally n (t ∷ ts) = cond (eqb n t.name) (suc (tally n ts)) (tally n ts)

none_tally : (n : ℕ) (ts : List Taken) → taken_at n ts ≡ None → tally n ts ≡ 0
none_tally n [] e = refl
none_tally n (t ∷ ts) e = go (eqb n t.name) e (none_tally n ts)
  where
    go : (b : Bool) → cond b (Some t.location) (taken_at n ts) ≡ None → (taken_at n ts ≡ None → tally n ts ≡ 0) → cond b (suc (tally n ts)) (tally n ts) ≡ 0
    go true f ih = absurd (let z : ◌≡◌ {A = ℕ} 0 1 = cc in omega arith)
    go false f ih = ih f

tally_none : (n : ℕ) (ts : List Taken) → tally n ts ≡ 0 → taken_at n ts ≡ None
tally_none n [] e = refl
tally_none n (t ∷ ts) e = go (eqb n t.name) e (tally_none n ts)
  where
    go : (b : Bool) → cond b (suc (tally n ts)) (tally n ts) ≡ 0 → (tally n ts ≡ 0 → taken_at n ts ≡ None) → cond b (Some t.location) (taken_at n ts) ≡ None
    go true f ih = absurd (omega arith)
    go false f ih = ih f

module _ (d : Accepted) (n : ℕ) (seen : List Taken) (xs : List Accepted) where
  tally_yes : eqb n d.head.name ≡ true → tally n (taken d.head ∷ seen) ≡ suc (tally n seen)
  tally_yes e = rw e

  tally_no : eqb n d.head.name ≡ false → tally n (taken d.head ∷ seen) ≡ tally n seen
  tally_no e = rw e

  once_step : (b c : Bool) → eqb n d.head.name ≡ c → (b ≡ true → taken_at d.head.name seen ≡ None) → (1 ≤ length xs → tally n (cond b (taken d.head ∷ seen) seen) + length xs ≡ 1) → 1 ≤ length (cond (b && c) (d ∷ xs) xs) → tally n seen + length (cond (b && c) (d ∷ xs) xs) ≡ 1
  once_step true true e new ih h =
      let free : tally n seen ≡ 0 = rw (eqb-true n d.head.name e) (none_tally d.head.name seen (new refl)) in
      let more = tally_yes e in
      ⊎_elim (λ l. absurd (let s = ih l in omega arith)) (λ l. omega arith) (cases_lt 0 (length xs))
  once_step true false e new ih h = let more = tally_no e in let s = ih h in omega arith
  once_step false c e new ih h = ih h

  rest_step : (b c : Bool) → eqb n d.head.name ≡ c → (1 ≤ length (cond (b && c) (d ∷ xs) xs) → tally n seen + length (cond (b && c) (d ∷ xs) xs) ≡ 1) → 1 ≤ length xs → tally n (cond b (taken d.head ∷ seen) seen) + length xs ≡ 1
  rest_step true true e h l = let more = tally_yes e in let s = h (omega arith) in omega arith
  rest_step true false e h l = let more = tally_no e in let s = h l in omega arith
  rest_step false c e h l = h l

-- in ds and what is taken together, a name that stands in ds stands once
abbrev pub Once : (Accepted → Bool) → List Taken → List Accepted → Type 0
Once p seen ds = (n : ℕ) → 1 ≤ length (named_by p n ds) → tally n seen + length (named_by p n ds) ≡ 1

once : (p : Accepted → Bool) (seen : List Taken) (ds : List Accepted) → New p seen ds → Once p seen ds
once p seen [] f n h = absurd (omega arith)
once p seen (d ∷ ds) f n h =
    once_step d n seen (named_by p n ds) (p d) (eqb n d.head.name) refl f.0 (once p (cond (p d) (taken d.head ∷ seen) seen) ds f.1 n) h

first_new : (p : Accepted → Bool) (seen : List Taken) (d : Accepted) (ds : List Accepted) → Once p seen (d ∷ ds) → p d ≡ true → taken_at d.head.name seen ≡ None
first_new p seen d ds h e =
    let both : (p d && eqb d.head.name d.head.name) ≡ true = rw (e, eq-eqb d.head.name d.head.name refl) refl in
    let long : length (named_by p d.head.name (d ∷ ds)) ≡ suc (length (named_by p d.head.name ds)) = rw both refl in
    tally_none d.head.name seen (let s = h d.head.name (omega arith) in omega arith)

new : (p : Accepted → Bool) (seen : List Taken) (ds : List Accepted) → Once p seen ds → New p seen ds
new p seen [] h = tt
new p seen (d ∷ ds) h =
    (first_new p seen d ds h, new p (cond (p d) (taken d.head ∷ seen) seen) ds (λ n. rest_step d n seen (named_by p n ds) (p d) (eqb n d.head.name) refl (h n)))

-- each definition of ds that passes p is the only one of its name in `all`
abbrev pub Alone : (Accepted → Bool) → List Accepted → List Accepted → Type 0
Alone p all ds = AllByRecursion (λ d. p d ≡ true → length (named_by p d.head.name all) ≡ 1) ds

longer : (b : Bool) (d : Accepted) (xs : List Accepted) → length xs ≤ length (cond b (d ∷ xs) xs)
longer true d xs = omega arith
longer false d xs = omega arith

alone : (p : Accepted → Bool) (all : List Accepted) → Once p [] all → (ds : List Accepted) → ((n : ℕ) → length (named_by p n ds) ≤ length (named_by p n all)) → Alone p all ds
alone p all h [] le = tt
alone p all h (d ∷ ds) le = (
  λ e.
      let both : (p d && eqb d.head.name d.head.name) ≡ true = rw (e, eq-eqb d.head.name d.head.name refl) refl in
      let long : length (named_by p d.head.name (d ∷ ds)) ≡ suc (length (named_by p d.head.name ds)) = rw both refl in
      let few = le d.head.name in
      let s = h d.head.name (omega arith) in omega arith,
  alone p all h ds (λ n. let few = le n in let more = longer (p d && eqb n d.head.name) d (named_by p n ds) in omega arith),
)

alone_once : (p : Accepted → Bool) (all ds : List Accepted) → Alone p all ds → (n : ℕ) → 1 ≤ length (named_by p n ds) → length (named_by p n all) ≡ 1
alone_once p all [] h n l = absurd (omega arith)
alone_once p all (d ∷ ds) h n l = go (p d) (eqb n d.head.name) refl refl h.0 (alone_once p all ds h.1 n) l
  where
    go : (b c : Bool) → p d ≡ b → eqb n d.head.name ≡ c → (p d ≡ true → length (named_by p d.head.name all) ≡ 1) → (1 ≤ length (named_by p n ds) → length (named_by p n all) ≡ 1) → 1 ≤ length (cond (b && c) (d ∷ named_by p n ds) (named_by p n ds)) → length (named_by p n all) ≡ 1
    go true true e f one ih l = rw (eqb-true n d.head.name f) (one e)
    go true false e f one ih l = ih l
    go false c e f one ih l = ih l

pub new_alone : (p : Accepted → Bool) (ds : List Accepted) → New p [] ds → Alone p ds ds
new_alone p ds f = alone p ds (once p [] ds f) ds (λ n. omega arith)

pub alone_new : (p : Accepted → Bool) (ds : List Accepted) → Alone p ds ds → New p [] ds
alone_new p ds h = new p [] ds (λ n l. let s = alone_once p ds ds h n l in omega arith)

-- Operations: a state of the stored ones, and those to come

abbrev pub LoneAt : Role → Option ℕ → List Taken → Type 0
LoneAt anonymous_operation a ns = (a ≡ None) × (ns ≡ [])
LoneAt named_operation a ns = a ≡ None
LoneAt fragment a ns = Unit {0}
LoneAt type_system a ns = Unit {0}

abbrev pub Lone : Option ℕ → List Taken → List Accepted → Type 0
Lone a ns [] = Unit {0}
Lone a ns (d ∷ ds) = LoneAt (role_of d.head) a ns × Lone (cond (is_anonymous d) (Some d.head.location) a) (cond (is_named d) (taken d.head ∷ ns) ns) ds

abbrev held : Option ℕ → ℕ
held None = 0
held (Some at) = 1

few_step : (w : Role) (d : Accepted) (xs ys : List Accepted) → length xs ≤ length ys → length (cond (anonymous_role w) (d ∷ xs) xs) ≤ length (cond (operation_role w) (d ∷ ys) ys)
few_step anonymous_operation d xs ys l = omega arith
few_step named_operation d xs ys l = omega arith
few_step fragment d xs ys l = l
few_step type_system d xs ys l = l

few : (ds : List Accepted) → length (anonymous_operations ds) ≤ length (operations ds)
few [] = omega arith
few (d ∷ ds) = few_step (role_of d.head) d (anonymous_operations ds) (operations ds) (few ds)

abbrev Only : Option ℕ → List Taken → List Accepted → List Accepted → Type 0
Only a ns os us = 1 ≤ length os → 1 < held a + length ns + length os → held a + length us ≡ 0

none_held : (a : Option ℕ) → a ≡ None → held a ≡ 0
none_held a e = rw e

held_none : (a : Option ℕ) → held a ≡ 0 → a ≡ None
held_none None e = refl
held_none (Some at) e = absurd (omega arith)

module _ (d : Accepted) (a : Option ℕ) (ns : List Taken) (os us : List Accepted) (less : length us ≤ length os) where
  only_step : (w : Role) → LoneAt w a ns → Only (cond (anonymous_role w) (Some d.head.location) a) (cond (named_role w) (taken d.head ∷ ns) ns) os us → Only a ns (cond (operation_role w) (d ∷ os) os) (cond (anonymous_role w) (d ∷ us) us)
  only_step anonymous_operation n ih h k =
      let none = none_held a n.0 in
      let bare : length ns ≡ 0 = ap length n.1 in
      absurd (⊎_elim (λ l. let s = ih l (omega arith) in omega arith) (λ l. omega arith) (cases_lt 0 (length os)))
  only_step named_operation n ih h k =
      let none = none_held a n in
      ⊎_elim (λ l. let s = ih l (omega arith) in omega arith) (λ l. omega arith) (cases_lt 0 (length os))
  only_step fragment n ih h k = ih h k
  only_step type_system n ih h k = ih h k

  lone_at : (w : Role) → Only a ns (cond (operation_role w) (d ∷ os) os) (cond (anonymous_role w) (d ∷ us) us) → LoneAt w a ns
  lone_at anonymous_operation h =
      let small : held a + length ns + suc (length os) ≤ 1 = ⊎_elim (λ l. absurd (let s = h (omega arith) l in omega arith)) (λ l. l) (cases_lt 1 (held a + length ns + suc (length os))) in
      (held_none a (omega arith), nil_from_length ns (omega arith))
  lone_at named_operation h =
      held_none a (⊎_elim (λ l. let s = h (omega arith) (omega arith) in omega arith) (λ l. omega arith) (cases_lt 0 (held a)))
  lone_at fragment h = tt
  lone_at type_system h = tt

  only_rest : (w : Role) → Only a ns (cond (operation_role w) (d ∷ os) os) (cond (anonymous_role w) (d ∷ us) us) → Only (cond (anonymous_role w) (Some d.head.location) a) (cond (named_role w) (taken d.head ∷ ns) ns) os us
  only_rest anonymous_operation h l k = absurd (let s = h (omega arith) (omega arith) in omega arith)
  only_rest named_operation h l k = let s = h (omega arith) (omega arith) in omega arith
  only_rest fragment h l k = h l k
  only_rest type_system h l k = h l k

only : (a : Option ℕ) (ns : List Taken) (ds : List Accepted) → Lone a ns ds → Only a ns (operations ds) (anonymous_operations ds)
only a ns [] f h k = absurd (omega arith)
only a ns (d ∷ ds) f h k =
    only_step d a ns (operations ds) (anonymous_operations ds) (few ds) (role_of d.head) f.0 (only (cond (is_anonymous d) (Some d.head.location) a) (cond (is_named d) (taken d.head ∷ ns) ns) ds f.1) h k

lone : (a : Option ℕ) (ns : List Taken) (ds : List Accepted) → Only a ns (operations ds) (anonymous_operations ds) → Lone a ns ds
lone a ns [] h = tt
lone a ns (d ∷ ds) h = (
  lone_at d a ns (operations ds) (anonymous_operations ds) (few ds) (role_of d.head) h,
  lone (cond (is_anonymous d) (Some d.head.location) a) (cond (is_named d) (taken d.head ∷ ns) ns) ds (only_rest d a ns (operations ds) (anonymous_operations ds) (few ds) (role_of d.head) h),
)

pub lone_rule : (ds : List Accepted) → Lone None [] ds → 1 < length (operations ds) → anonymous_operations ds ≡ []
lone_rule ds f l = nil_from_length (anonymous_operations ds) (let s = only None [] ds f (omega arith) (omega arith) in omega arith)

pub rule_lone : (ds : List Accepted) → (1 < length (operations ds) → anonymous_operations ds ≡ []) → Lone None [] ds
rule_lone ds h = lone None [] ds (λ l k. let s : length (anonymous_operations ds) ≡ 0 = ap length (h (omega arith)) in omega arith)

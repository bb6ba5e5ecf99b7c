-- Tables that are filled in two parts, and what the rules read of tables that are filled.
use Rattle.std.proofs.Common.{◌≡◌, ℕ, zero, suc, ◌+◌, ◌<◌, ◌≤◌, Bool, true, false, cond, List, [], ◌∷◌, ◌++◌, length, get_or, set, Some, Option, sym, refl, ap, ◌∙◌, append_assoc, add-one, arith, length-append, length-set}
use Rattle.std.proofs.lemmas.List.{get_or-set_same, get_or-set_other}
use Rattle.layout.specs.Forest.{size, flatten}
use Rattle.layout.proofs.Tables.{length-flatten}
use Rattle.selection_rules.specs.declared.stored.StoredRow.{StoredRow}
use Rattle.selection_rules.specs.Stored.{stored_row}
use Rattle.selection_rules.specs.Errors.{Error, keys_in, error_rows}
use Rattle.building_rules.specs.Definitions.{Kept, Role, role_of, Taken, taken, State}
use Rattle.building_rules.specs.Rules.{anonymous_role, named_role, fragment_role}
use Rattle.building_rules.specs.Bounds.{rows_kept}
use Rattle.building_rules.proofs.Fits.{keys_join, rows_join}
use Rattle.stored_tables.specs.declared.definition.StoredDefinition.{StoredDefinition}
use Rattle.stored_tables.specs.Layout.{laid_out, rows_of, those_of, operations_of, fragments_of, latest, anonymous_of}
use Rattle.builder.specs.Filling.{put, Output}
use Rattle.stored_tables.specs.Verdict.{no_stored_definition}
use Rattle.builder.specs.Holding.{Table, entered, all_entered, Held, taken_by, location_of, state_of, filled_with}
use Rattle.builder.proofs.Puts.{put-put}
use Rattle.builder.proofs.Outputs.{same_output, rows_joined, length_rows}

-- equal parts make it equal
pub same_held : {a a' b b' : Table} {o o' : Output} {x x' : Option StoredDefinition} {m m' : Bool} → a ≡ a' → b ≡ b' → o ≡ o' → x ≡ x' → m ≡ m'
    → ◌≡◌ {A = Held} (record { operations = a; fragments = b; output = o; anonymous = x; multiple = m }) (record { operations = a'; fragments = b'; output = o'; anonymous = x'; multiple = m' })
same_held p q r s t = cc

-- In two parts

entered_two : (t : Table) (xs ys : List StoredDefinition) → all_entered (all_entered t xs) ys ≡ all_entered t (xs ++ ys)
entered_two t [] ys = refl
entered_two t (x ∷ xs) ys = entered_two (entered t x) xs ys

latest_two : {A : Type 0} (a : Option A) (xs ys : List A) → latest (latest a xs) ys ≡ latest a (xs ++ ys)
latest_two a [] ys = refl
latest_two a (x ∷ xs) ys = latest_two (Some x) xs ys

-- one more, or none, before others
one_before : {A : Type 0} (b : Bool) (x : A) (xs ys zs : List A) → zs ≡ xs ++ ys → cond b (x ∷ zs) zs ≡ cond b (x ∷ xs) xs ++ ys
one_before true x xs ys zs e = ap (λ (l : List _). x ∷ l) e
one_before false x xs ys zs e = e

pub those_two : (test : Role → Bool) (n : ℕ) (ks js : List Kept) → those_of test n (ks ++ js) ≡ those_of test n ks ++ those_of test (n + rows_kept ks) js
those_two test n [] js = ap (λ (i : ℕ). those_of test i js) (omega arith)
those_two test n (k ∷ ks) js =
    one_before (test (role_of k.head)) (laid_out n k) (those_of test (n + size k.rows) ks) (those_of test (n + rows_kept (k ∷ ks)) js) (those_of test (n + size k.rows) (ks ++ js))
    (those_two test (n + size k.rows) ks js ∙ ap (λ (i : ℕ). those_of test (n + size k.rows) ks ++ those_of test i js) (omega arith))

pub rows_two : (n : ℕ) (ks js : List Kept) → rows_of n (ks ++ js) ≡ rows_of n ks ++ rows_of (n + rows_kept ks) js
rows_two n [] js = ap (λ (i : ℕ). rows_of i js) (omega arith)
rows_two n (k ∷ ks) js =
    ap (λ (l : List StoredRow). flatten stored_row n k.rows ++ l) (rows_two (n + size k.rows) ks js ∙ ap (λ (i : ℕ). rows_of (n + size k.rows) ks ++ rows_of i js) (omega arith))
    ∙ sym (append_assoc (flatten stored_row n k.rows) (rows_of (n + size k.rows) ks) (rows_of (n + rows_kept (k ∷ ks)) js))

pub many_rows : (n : ℕ) (ks : List Kept) → length (rows_of n ks) ≡ rows_kept ks
many_rows n [] = refl
many_rows n (k ∷ ks) =
    omega (arith, length-append (flatten stored_row n k.rows) (rows_of (n + size k.rows) ks), length-flatten stored_row n k.rows, many_rows (n + size k.rows) ks)

-- what is filled fits the tables of rows, errors and path keys
pub record Fit (h : Held) (ks : List Kept) (es : List Error) : Type 0 where
  pub rows : h.output.filled.rows + rows_kept ks ≤ length h.output.rows
  pub errors : h.output.filled.errors + length es ≤ length h.output.errors
  pub keys : h.output.filled.path_keys + length (keys_in es) ≤ length h.output.path_keys

pub filled_two : (h : Held) (ks js : List Kept) (es fs : List Error) (b c : Bool) → Fit h ks es → filled_with (filled_with h ks es b) js fs c ≡ filled_with h (ks ++ js) (es ++ fs) c
filled_two h ks js es fs b c fit =
    let n = h.output.filled.rows in
    let k = h.output.filled.errors in
    let q = h.output.filled.path_keys in
    let many = many_rows n ks in
    let errors-many = length_rows q es in
    same_held
    (entered_two h.operations (operations_of n ks) (operations_of (n + rows_kept ks) js) ∙ ap (all_entered h.operations) (sym (those_two named_role n ks js)))
    (entered_two h.fragments (fragments_of n ks) (fragments_of (n + rows_kept ks) js) ∙ ap (all_entered h.fragments) (sym (those_two fragment_role n ks js)))
    (same_output
    (put-put h.output.rows n (rows_of n ks) (rows_of (n + rows_kept ks) js) (n + rows_kept ks) (omega arith) fit.rows ∙ ap (put h.output.rows n) (sym (rows_two n ks js)))
    (put-put h.output.errors k (error_rows q es) (error_rows (q + length (keys_in es)) fs) (k + length es) (omega arith) fit.errors ∙ ap (put h.output.errors k) (sym (rows_joined q es fs)))
    (put-put h.output.path_keys q (keys_in es) (keys_in fs) (q + length (keys_in es)) refl fit.keys ∙ ap (put h.output.path_keys q) (sym (keys_join es fs)))
    (omega (arith, rows_join ks js))
    (omega (arith, length-append es fs))
    (omega (arith, ap length (keys_join es fs), length-append (keys_in es) (keys_in fs))))
    (latest_two h.anonymous (those_of anonymous_role n ks) (those_of anonymous_role (n + rows_kept ks) js) ∙ ap (latest h.anonymous) (sym (those_two anonymous_role n ks js)))
    refl

-- What the rules read

-- what a stored definition takes
abbrev taken_stored : StoredDefinition → Taken
taken_stored d = record { name = d.row.name; location = d.row.name_location }

unchanged : (es : List StoredDefinition) (n : ℕ) (d : StoredDefinition) (m : ℕ) → m ≤ n → taken_by (set es n d) m ≡ taken_by es m
unchanged es n d zero low = refl
unchanged es n d (suc m) low =
    let other = get_or-set_other es n m d no_stored_definition (λ same. omega arith) in
    ap (λ x. taken_stored x ∷ taken_by (set es n d) m) other ∙ ap (λ (l : List Taken). taken_stored (get_or es m no_stored_definition) ∷ l) (unchanged es n d m (omega arith))

-- the names that a table takes once one more definition is in it
taken_more : (t : Table) (d : StoredDefinition) → t.count < length t.entries → taken_by (entered t d).entries (entered t d).count ≡ taken_stored d ∷ taken_by t.entries t.count
taken_more t d low =
    ap (taken_by (set t.entries t.count d)) (add-one t.count)
    ∙ ap (λ x. taken_stored x ∷ taken_by (set t.entries t.count d) t.count) (get_or-set_same t.entries t.count d no_stored_definition low)
    ∙ ap (λ (l : List Taken). taken_stored d ∷ l) (unchanged t.entries t.count d t.count (omega arith))

abbrev all_taken : List StoredDefinition → List Taken → List Taken
all_taken [] ts = ts
all_taken (d ∷ ds) ts = all_taken ds (taken_stored d ∷ ts)

pub entered_count : (t : Table) (ds : List StoredDefinition) → (all_entered t ds).count ≡ t.count + length ds
entered_count t [] = omega arith
entered_count t (d ∷ ds) = let rest = entered_count (entered t d) ds in omega arith

pub entered_long : (t : Table) (ds : List StoredDefinition) → length (all_entered t ds).entries ≡ length t.entries
entered_long t [] = refl
entered_long t (d ∷ ds) = entered_long (entered t d) ds ∙ length-set t.entries t.count d

taken_all : (t : Table) (ds : List StoredDefinition) → t.count + length ds ≤ length t.entries → taken_by (all_entered t ds).entries (all_entered t ds).count ≡ all_taken ds (taken_by t.entries t.count)
taken_all t [] fits = refl
taken_all t (d ∷ ds) fits =
    let long = length-set t.entries t.count d in
    taken_all (entered t d) ds (omega arith) ∙ ap (all_taken ds) (taken_more t d (omega arith))

-- the names that kept definitions of a role take, behind others
abbrev pub names_after : (Role → Bool) → List Kept → List Taken → List Taken
names_after test [] ts = ts
names_after test (k ∷ ks) ts = names_after test ks (cond (test (role_of k.head)) (taken k.head ∷ ts) ts)

one_taken : (b : Bool) (d : StoredDefinition) (ds : List StoredDefinition) (ts : List Taken) → all_taken (cond b (d ∷ ds) ds) ts ≡ all_taken ds (cond b (taken_stored d ∷ ts) ts)
one_taken true d ds ts = refl
one_taken false d ds ts = refl

those_taken : (test : Role → Bool) (n : ℕ) (ks : List Kept) (ts : List Taken) → all_taken (those_of test n ks) ts ≡ names_after test ks ts
those_taken test n [] ts = refl
those_taken test n (k ∷ ks) ts =
    one_taken (test (role_of k.head)) (laid_out n k) (those_of test (n + size k.rows) ks) ts ∙ those_taken test (n + size k.rows) ks _

-- where the latest anonymous operation among kept definitions stands
abbrev pub lone_after : List Kept → Option ℕ → Option ℕ
lone_after [] a = a
lone_after (k ∷ ks) a = lone_after ks (cond (anonymous_role (role_of k.head)) (Some k.head.location) a)

one_latest : (b : Bool) (d : StoredDefinition) (ds : List StoredDefinition) (a : Option StoredDefinition) → location_of (latest a (cond b (d ∷ ds) ds)) ≡ location_of (latest (cond b (Some d) a) ds)
one_latest true d ds a = refl
one_latest false d ds a = refl

one_located : (b : Bool) (d : StoredDefinition) (a : Option StoredDefinition) → location_of (cond b (Some d) a) ≡ cond b (Some d.row.location) (location_of a)
one_located true d a = refl
one_located false d a = refl

lone_located : (n : ℕ) (ks : List Kept) (a : Option StoredDefinition) → location_of (anonymous_of a n ks) ≡ lone_after ks (location_of a)
lone_located n [] a = refl
lone_located n (k ∷ ks) a =
    let b = anonymous_role (role_of k.head) in
    one_latest b (laid_out n k) (those_of anonymous_role (n + size k.rows) ks) a
    ∙ lone_located (n + size k.rows) ks (cond b (Some (laid_out n k)) a)
    ∙ ap (lone_after ks) (one_located b (laid_out n k) a)

-- the state that kept definitions lead to
abbrev pub with_kept : State → List Kept → Bool → State
with_kept s ks multiple =
    record {
      anonymous = lone_after ks s.anonymous;
      multiple = multiple;
      operations = names_after named_role ks s.operations;
      fragments = names_after fragment_role ks s.fragments;
    }

-- how many kept definitions stand in a table
pub record Room (h : Held) (ks : List Kept) : Type 0 where
  pub operations : h.operations.count + length (operations_of h.output.filled.rows ks) ≤ length h.operations.entries
  pub fragments : h.fragments.count + length (fragments_of h.output.filled.rows ks) ≤ length h.fragments.entries

pub same_state : {a a' : Option ℕ} {b b' : Bool} {xs xs' ys ys' : List Taken} → a ≡ a' → b ≡ b' → xs ≡ xs' → ys ≡ ys'
    → ◌≡◌ {A = State} (record { anonymous = a; multiple = b; operations = xs; fragments = ys }) (record { anonymous = a'; multiple = b'; operations = xs'; fragments = ys' })
same_state p q r s = cc

pub filled_state : (h : Held) (ks : List Kept) (es : List Error) (multiple : Bool) → Room h ks → state_of (filled_with h ks es multiple) ≡ with_kept (state_of h) ks multiple
filled_state h ks es multiple room =
    let n = h.output.filled.rows in
    same_state (lone_located n ks h.anonymous) refl
    (taken_all h.operations (operations_of n ks) room.operations ∙ those_taken named_role n ks _)
    (taken_all h.fragments (fragments_of n ks) room.fragments ∙ those_taken fragment_role n ks _)

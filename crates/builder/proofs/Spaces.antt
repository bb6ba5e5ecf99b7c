-- Where there is space for what definitions can need, there is room for what they come to, and space for those after them.
use Rattle.std.proofs.Common.{◌≡◌, ℕ, ◌+◌, ◌≤◌, Bool, true, false, cond, not, ◌&&◌, eqb, List, [], ◌∷◌, ◌++◌, length, count_by, arith}
use Rattle.std.proofs.lemmas.List.{append-nil}
use Rattle.std.proofs.lemmas.List.Sums.{sum_by-cons}
use Rattle.layout.specs.Forest.{size}
use Rattle.document.specs.declared.handed.needs.Needs.{Needs}
use Rattle.document.specs.Rows.{Head, is_operation, is_fragment, named_operation}
use Rattle.schema.specs.Meaning.{Meaning}
use Rattle.selection_rules.specs.Errors.{Error, keys_in, error_rows}
use Rattle.building_rules.specs.Definitions.{Accepted, Kept, Role, anonymous_operation, fragment, type_system, role_of, step, errors_from, kept_from}
use Rattle.building_rules.specs.Definitions as define
use Rattle.building_rules.specs.Rules.{named_role, fragment_role}
use Rattle.building_rules.specs.Bounds.{needs_for, Fits}
use Rattle.building_rules.proofs.Fits.{builds_fit}
use Rattle.stored_tables.specs.Layout.{laid_out, rows_of, those_of, operations_of, fragments_of}
use Rattle.builder.specs.Holding.{Held, state_of, filled_with, one_in}
use Rattle.builder.specs.Space.{Space}
use Rattle.builder.proofs.Puts.{length-put}
use Rattle.builder.proofs.Outputs.{length_rows}
use Rattle.builder.proofs.Kepts.{Fit, Room, many_rows, entered_count, entered_long}

-- no more definitions stand in a table than there are of its kind
as_many : (test : Role → Bool) (p : Head → Bool) → ((h : Head) → cond (test (role_of h)) 1 0 ≤ cond (p h) 1 0) → (n : ℕ) (ks : List Kept) → length (those_of test n ks) ≤ count_by (λ k. p k.head) ks
as_many test p low n [] = omega arith
as_many test p low n (k ∷ ks) =
    let rest = as_many test p low (n + size k.rows) ks in
    let own = low k.head in
    let sums = sum_by-cons (λ x. cond (p x.head) 1 0) k ks in
    let one = one_more (test (role_of k.head)) in
    omega (arith, one)
  where
    one_more : (b : Bool) → length (cond b (laid_out n k ∷ those_of test (n + size k.rows) ks) (those_of test (n + size k.rows) ks)) ≡ cond b 1 0 + length (those_of test (n + size k.rows) ks)
    one_more true = omega arith
    one_more false = omega arith

named_of : (a b c : Bool) → cond (named_role (cond a (cond b anonymous_operation define.named_operation) (cond c fragment type_system))) 1 0 ≤ cond (a && not b) 1 0
named_of true true c = omega arith
named_of true false c = omega arith
named_of false b true = omega arith
named_of false b false = omega arith

fragment_of : (a b c : Bool) → cond (fragment_role (cond a (cond b anonymous_operation define.named_operation) (cond c fragment type_system))) 1 0 ≤ cond c 1 0
fragment_of true true c = omega arith
fragment_of true false c = omega arith
fragment_of false b true = omega arith
fragment_of false b false = omega arith

pub few_operations : (n : ℕ) (ks : List Kept) → length (operations_of n ks) ≤ count_by (λ k. named_operation k.head) ks
few_operations n ks = as_many named_role named_operation (λ h. named_of (is_operation h) (eqb h.name 0) (is_fragment h)) n ks

pub few_fragments : (n : ℕ) (ks : List Kept) → length (fragments_of n ks) ≤ count_by (λ k. is_fragment k.head) ks
few_fragments n ks = as_many fragment_role is_fragment (λ h. fragment_of (is_operation h) (eqb h.name 0) (is_fragment h)) n ks

-- where there is space for all, there is for the first
pub space_one : (h : Held) (d : Accepted) (ds : List Accepted) → Space h (needs_for (d ∷ ds)) → Space h (needs_for (d ∷ []))
space_one h d ds space =
    let some = sum_by-cons (λ x. cond (named_operation x.head) 1 0) d ds in
    let one = sum_by-cons (λ x. cond (named_operation x.head) 1 0) d [] in
    let some-fragments = sum_by-cons (λ x. cond (is_fragment x.head) 1 0) d ds in
    let one-fragment = sum_by-cons (λ x. cond (is_fragment x.head) 1 0) d [] in
    record {
      operations_fit = omega (arith, space.operations_fit);
      operations_few = omega (arith, space.operations_few);
      fragments_fit = omega (arith, space.fragments_fit);
      fragments_few = omega (arith, space.fragments_few);
      rows_fit = omega (arith, space.rows_fit);
      rows_few = omega (arith, space.rows_few);
      errors_fit = omega (arith, space.errors_fit);
      errors_few = omega (arith, space.errors_few);
      keys_fit = omega (arith, space.keys_fit);
      keys_few = omega (arith, space.keys_few);
    }

-- what is held once kept definitions and errors stand behind what was there: how many places are filled at most, where they fit
-- into the needs, and that the tables are as long as they were
pub record Grown (before after : Held) (needs : Needs) : Type 0 where
  pub operations : after.operations.count ≤ before.operations.count + needs.operations
  pub fragments : after.fragments.count ≤ before.fragments.count + needs.fragments
  pub rows : after.output.filled.rows ≤ before.output.filled.rows + needs.rows
  pub errors : after.output.filled.errors ≤ before.output.filled.errors + needs.errors
  pub path_keys : after.output.filled.path_keys ≤ before.output.filled.path_keys + needs.path_keys
  pub operations_long : length after.operations.entries ≡ length before.operations.entries
  pub fragments_long : length after.fragments.entries ≡ length before.fragments.entries
  pub rows_long : length after.output.rows ≡ length before.output.rows
  pub errors_long : length after.output.errors ≡ length before.output.errors
  pub keys_long : length after.output.path_keys ≡ length before.output.path_keys

pub grown : (h : Held) (ks : List Kept) (es : List Error) (multiple : Bool) (needs : Needs) → Space h needs → Fits needs es ks → Grown h (filled_with h ks es multiple) needs
grown h ks es multiple needs space fits =
    let n = h.output.filled.rows in
    let k = h.output.filled.errors in
    let q = h.output.filled.path_keys in
    let many = many_rows n ks in
    let listed = length_rows q es in
    let a = few_operations n ks in
    let b = few_fragments n ks in
    let c = entered_count h.operations (operations_of n ks) in
    let e = entered_count h.fragments (fragments_of n ks) in
    record {
      operations = omega (arith, fits.operations);
      fragments = omega (arith, fits.fragments);
      rows = omega (arith, fits.rows);
      errors = omega (arith, fits.errors);
      path_keys = omega (arith, fits.path_keys);
      operations_long = entered_long h.operations (operations_of n ks);
      fragments_long = entered_long h.fragments (fragments_of n ks);
      rows_long = length-put h.output.rows n (rows_of n ks) (omega (arith, space.rows_fit, fits.rows));
      errors_long = length-put h.output.errors k (error_rows q es) (omega (arith, space.errors_fit, fits.errors));
      keys_long = length-put h.output.path_keys q (keys_in es) (omega (arith, space.keys_fit, fits.path_keys));
    }

module _ (m : Meaning) (h : Held) where
  -- all that is needed is there
  pub roomy : (ds : List Accepted) → Space h (needs_for ds) → Room h (kept_from m (state_of h) ds)
  roomy ds space =
      let n = h.output.filled.rows in
      let ks = kept_from m (state_of h) ds in
      let fits = builds_fit m (state_of h) ds in
      record {
        operations = omega (arith, few_operations n ks, fits.operations, space.operations_fit);
        fragments = omega (arith, few_fragments n ks, fits.fragments, space.fragments_fit);
      }

  pub fitting : (ds : List Accepted) → Space h (needs_for ds) → Fit h (kept_from m (state_of h) ds) (errors_from m (state_of h) ds)
  fitting ds space =
      let fits = builds_fit m (state_of h) ds in
      record {
        rows = omega (arith, fits.rows, space.rows_fit);
        errors = omega (arith, fits.errors, space.errors_fit);
        keys = omega (arith, fits.path_keys, space.keys_fit);
      }

  -- the definitions after one find space again
  pub space_left : (d : Accepted) (ds : List Accepted) → Space h (needs_for (d ∷ ds)) → Space (one_in m h d) (needs_for ds)
  space_left d ds space =
      let o = step m (state_of h) d in
      let both : Fits (needs_for (d ∷ [])) (o.errors ++ []) (o.kept ++ []) = builds_fit m (state_of h) (d ∷ []) in
      let fits : Fits (needs_for (d ∷ [])) o.errors o.kept = rw (append-nil o.errors, append-nil o.kept) at both in
      let g = grown h o.kept o.errors o.next.multiple (needs_for (d ∷ [])) (space_one h d ds space) fits in
      let some = sum_by-cons (λ x. cond (named_operation x.head) 1 0) d ds in
      let one = sum_by-cons (λ x. cond (named_operation x.head) 1 0) d [] in
      let some-fragments = sum_by-cons (λ x. cond (is_fragment x.head) 1 0) d ds in
      let one-fragment = sum_by-cons (λ x. cond (is_fragment x.head) 1 0) d [] in
      record {
        operations_fit = omega (arith, space.operations_fit, g.operations, g.operations_long);
        operations_few = omega (arith, space.operations_few, g.operations);
        fragments_fit = omega (arith, space.fragments_fit, g.fragments, g.fragments_long);
        fragments_few = omega (arith, space.fragments_few, g.fragments);
        rows_fit = omega (arith, space.rows_fit, g.rows, g.rows_long);
        rows_few = omega (arith, space.rows_few, g.rows);
        errors_fit = omega (arith, space.errors_fit, g.errors, g.errors_long);
        errors_few = omega (arith, space.errors_few, g.errors);
        keys_fit = omega (arith, space.keys_fit, g.path_keys, g.keys_long);
        keys_few = omega (arith, space.keys_few, g.path_keys);
      }

-- Kept definitions that can stand in tables, laid out, are without a fault: each is whole, in its place and the only one
-- with its name, and each row is in one range and fits there.
use Rattle.std.proofs.Common.{◌≡◌, ℕ, zero, suc, ◌+◌, ◌<◌, ◌≤◌, Bool, true, false, cond, List, [], ◌∷◌, ◌++◌, map, length, take, count_by, Some, None, Option, sym, refl, ap, ◌∙◌, subst, eq-eqb, arith}
use Rattle.std.specs.Bool.{◌==◌}
use Rattle.std.specs.List.{AllByRecursion, list_any}
use Rattle.std.proofs.ByRecursion.{All-get_or, All-weaker}
use Rattle.std.proofs.lemmas.Bool.{le-ltb, and_from, or_from, not_from_true, not_from_false, false≢true}
use Rattle.std.proofs.lemmas.List.Folds.{list_any-append}
use Rattle.std.proofs.lemmas.List.Sums.{sum_by-cons}
use Rattle.refusal.specs.Firsts.{or_else}
use Rattle.layout.specs.Forest.{size}
use Rattle.document.specs.declared.kinds.DefinitionKind.TheVariants.{Operation, Fragment}
use Rattle.selection_rules.specs.declared.stored.StoredRow.{StoredRow}
use Rattle.selection_rules.specs.Stored.{stored_view}
use Rattle.building_rules.specs.Definitions.{Kept, Role, anonymous_operation, named_operation, fragment, type_system, role_of}
use Rattle.building_rules.specs.Rules.{anonymous_role, named_role, fragment_role}
use Rattle.building_rules.specs.Storable.{AllStorable, kept_named}
use Rattle.stored_tables.specs.declared.definition.StoredDefinition.{StoredDefinition}
use Rattle.stored_tables.specs.declared.fault.StoredFault.{StoredFault}
use Rattle.stored_tables.specs.declared.fault.StoredFault.TheVariants.{InAnonymous, InOperations, InFragments, InRows}
use Rattle.stored_tables.specs.Layout.{laid_out, rows_of, those_of, latest, operations_of, fragments_of, anonymous_of}
use Rattle.stored_tables.specs.Verdict.{first_place, no_stored_definition, definition_at, misplaced, whole_as, anonymous_whole, broken_definition, anonymous_broken, holds, unfit, unfit_in, broken_row, alone, all_stored, told_in, stored_fault}
use Rattle.stored_tables.specs.Ranges.{Placed, InOrder}
use Rattle.stored_tables.proofs.Places.{place_none}
use Rattle.stored_tables.proofs.Following.{counted_at, end_from, before_is, later_end, held_in_all}
use Rattle.stored_tables.proofs.LaidOut.{RestIs, Good, all_good, all_in_order, none_unfit, counted_once}

-- what a role says of the head

named_parts : (a b c : Bool) → named_role (cond a (cond b anonymous_operation named_operation) (cond c fragment type_system)) ≡ true → (a ≡ true) × (b ≡ false)
named_parts true true c is = absurd (false≢true is)
named_parts true false c is = (refl, refl)
named_parts false b true is = absurd (false≢true is)
named_parts false b false is = absurd (false≢true is)

anonymous_parts : (a b c : Bool) → anonymous_role (cond a (cond b anonymous_operation named_operation) (cond c fragment type_system)) ≡ true → (a ≡ true) × (b ≡ true)
anonymous_parts true true c is = (refl, refl)
anonymous_parts true false c is = absurd (false≢true is)
anonymous_parts false b true is = absurd (false≢true is)
anonymous_parts false b false is = absurd (false≢true is)

fragment_parts : (a b c : Bool) → fragment_role (cond a (cond b anonymous_operation named_operation) (cond c fragment type_system)) ≡ true → c ≡ true
fragment_parts true true c is = absurd (false≢true is)
fragment_parts true false c is = absurd (false≢true is)
fragment_parts false b true is = refl
fragment_parts false b false is = absurd (false≢true is)

operation_whole : (rows : List StoredRow) (d : StoredDefinition) → Good rows named_role d → whole_as Operation d ≡ true
operation_whole rows d good =
    let parts = named_parts _ _ _ good.role in
    and_from _ _ (and_from _ _ parts.0 (not_from_false _ parts.1)) (not_from_false _ good.whole)

fragment_whole : (rows : List StoredRow) (d : StoredDefinition) → Good rows fragment_role d → whole_as Fragment d ≡ true
fragment_whole rows d good =
    and_from _ _ (fragment_parts _ _ _ good.role)
    (and_from _ _ (not_from_false _ good.named) (and_from _ _ (not_from_false _ good.whole) (eq-eqb d.set_type d.row.condition (good.condition good.role))))

is_anonymous_whole : (rows : List StoredRow) (d : StoredDefinition) → Good rows anonymous_role d → anonymous_whole d ≡ true
is_anonymous_whole rows d good =
    let parts = anonymous_parts _ _ _ good.role in
    and_from _ _ parts.0 (and_from _ _ parts.1 (not_from_false _ good.whole))

-- places

not_misplaced : (start rows : ℕ) (d : StoredDefinition) → start ≤ d.row.first → Placed rows d → misplaced start rows d ≡ false
not_misplaced start rows d low placed =
    or_from _ _ (le-ltb d.row.first start low) (or_from _ _ (le-ltb d.row.end d.row.first placed.ordered) (le-ltb rows d.row.end placed.within))

in_place_from : (rows s : ℕ) (ds : List StoredDefinition) (i : ℕ) → InOrder rows s ds → i < length ds → misplaced (end_from s ds i) rows (definition_at ds i) ≡ false
in_place_from rows s [] i order low = absurd (omega arith)
in_place_from rows s (d ∷ ds) zero order low = not_misplaced s rows d order.0 order.1
in_place_from rows s (d ∷ ds) (suc i) order low =
    ap (λ e. misplaced e rows (definition_at ds i)) (later_end s d ds i) ∙ in_place_from rows d.row.end ds i order.2 (omega arith)

-- names

module _ (p : StoredDefinition → Bool) where
  abbrev one : StoredDefinition → ℕ
  one d = cond (p d) 1 0

  off : (b : Bool) (n : ℕ) → cond b 1 0 + n ≤ 1 → 1 ≤ n → b ≡ false
  off true n few some = absurd (omega arith)
  off false n few some = refl

  -- where one at most passes, none passes before it
  single : (ds : List StoredDefinition) (i : ℕ) → count_by p ds ≤ 1 → i < length ds → p (definition_at ds i) ≡ true → list_any p (take i ds) ≡ false
  single [] i few low here = absurd (omega arith)
  single (d ∷ ds) zero few low here = refl
  single (d ∷ ds) (suc i) few low here =
      let c = sum_by-cons one d ds in
      let some = counted_at p ds i (omega arith) here in
      or_from _ _ (off (p d) (count_by p ds) (omega (arith, c)) some) (single ds i (omega (arith, c)) (omega arith) here)

abbrev named_as : ℕ → StoredDefinition → Bool
named_as n d = d.row.name == n

name_step : (b : Bool) (n : ℕ) (d : StoredDefinition) (rest : List StoredDefinition) (more : ℕ) → count_by (named_as n) rest ≡ more → count_by (named_as n) (cond b (d ∷ rest) rest) ≡ cond b (cond (named_as n d) 1 0) 0 + more
name_step true n d rest more is = sum_by-cons (λ x. cond (named_as n x) 1 0) d rest ∙ ap (λ m. cond (named_as n d) 1 0 + m) is
name_step false n d rest more is = is ∙ omega arith

names_counted : (test : Role → Bool) (n s : ℕ) (ks : List Kept) → count_by (named_as n) (those_of test s ks) ≡ kept_named test n ks
names_counted test n s [] = refl
names_counted test n s (k ∷ ks) = name_step (test (role_of k.head)) n (laid_out s k) _ _ (names_counted test n (s + size k.rows) ks)

-- a table without a fault
table_clean : (whole : StoredDefinition → Bool) (rows : ℕ) (ds : List StoredDefinition) → InOrder rows 0 ds → AllByRecursion (λ d. whole d ≡ true) ds → ((n : ℕ) → count_by (named_as n) ds ≤ 1)
    → first_place (broken_definition whole rows ds) 0 (length ds) ≡ None
table_clean whole rows ds order all few =
    place_none (broken_definition whole rows ds) 0 (length ds)
    (λ m low.
    let d = definition_at ds m in
    let at : 0 + m ≡ m = omega arith in
    let placed = ap (λ e. misplaced e rows d) (before_is ds m) ∙ in_place_from rows 0 ds m order low in
    ap (broken_definition whole rows ds) at
    ∙ or_from _ _ (not_from_true _ (All-get_or (λ x. whole x ≡ true) ds m no_stored_definition low all))
    (or_from _ _ placed (single (named_as d.row.name) ds m (few d.row.name) low (eq-eqb d.row.name d.row.name refl))))

-- the anonymous operation: one at most

length_step : (b x : Bool) (d : StoredDefinition) (rest : List StoredDefinition) (more : ℕ) → (b ≡ true → x ≡ true) → length rest ≡ more → length (cond b (d ∷ rest) rest) ≡ cond b (cond x 1 0) 0 + more
length_step true x d rest more named is = let one : cond {A = ℕ} x 1 0 ≡ 1 = ap (λ y. cond y 1 0) (named refl) in omega (arith, one)
length_step false x d rest more named is = omega arith

pub anonymous_length : (s : ℕ) (ks : List Kept) → length (those_of anonymous_role s ks) ≡ kept_named anonymous_role 0 ks
anonymous_length s [] = refl
anonymous_length s (k ∷ ks) =
    length_step (anonymous_role (role_of k.head)) (k.head.name == 0) (laid_out s k) _ _ (λ is. (anonymous_parts _ _ _ is).1) (anonymous_length (s + size k.rows) ks)

pub alone_latest : (ds : List StoredDefinition) → length ds ≤ 1 → alone (latest None ds) ≡ ds
alone_latest [] few = refl
alone_latest (d ∷ []) few = refl
alone_latest (d ∷ e ∷ ds) few = absurd (omega arith)

anonymous_clean : (rows : List StoredRow) (ds : List StoredDefinition) → length ds ≤ 1 → AllByRecursion (Good rows anonymous_role) ds → anonymous_broken (length rows) (latest None ds) ≡ false
anonymous_clean rows [] few all = refl
anonymous_clean rows (d ∷ []) few all =
    or_from _ _ (not_from_true _ (is_anonymous_whole rows d all.0)) (not_misplaced 0 (length rows) d (omega arith) all.0.placed)
anonymous_clean rows (d ∷ e ∷ ds) few all = absurd (omega arith)

four_none : (a b c d : Option StoredFault) → a ≡ None → b ≡ None → c ≡ None → d ≡ None → or_else a (or_else b (or_else c d)) ≡ None
four_none a b c d x y z w = rw (x, y, z, w) refl

pub clean : (ks : List Kept) → AllStorable ks → stored_fault (anonymous_of None 0 ks) (operations_of 0 ks) (fragments_of 0 ks) (rows_of 0 ks) ≡ None
clean ks storable =
    let rows = rows_of 0 ks in
    let n = length rows in
    let at : RestIs rows 0 ks = record { reads = refl; ends = omega arith } in
    let operations = operations_of 0 ks in
    let fragments = fragments_of 0 ks in
    let others = those_of anonymous_role 0 ks in
    let anonymous = anonymous_of None 0 ks in
    let good-operations = all_good rows named_role 0 ks at storable.each in
    let good-fragments = all_good rows fragment_role 0 ks at storable.each in
    let good-others = all_good rows anonymous_role 0 ks at storable.each in
    let few : length others ≤ 1 = omega (arith, anonymous_length 0 ks, storable.anonymous 0) in
    let few-operations = λ (m : ℕ). subst (λ (c : ℕ). c ≤ 1) (sym (names_counted named_role m 0 ks)) (storable.operations m) in
    let few-fragments = λ (m : ℕ). subst (λ (c : ℕ). c ≤ 1) (sym (names_counted fragment_role m 0 ks)) (storable.fragments m) in
    let same = alone_latest others few in
    let row_fine : (m : ℕ) → m < n → broken_row (map stored_view rows) (all_stored anonymous operations fragments) (0 + m) ≡ false =
    λ m low.
    let start : 0 + m ≡ m = omega arith in
    let once = counted_once rows m 0 ks at storable.each (omega arith) low in
    let sums = held_in_all m anonymous operations fragments _ _ _ refl refl (ap (count_by (holds m)) (sym same)) in
    let count : count_by (holds m) (all_stored anonymous operations fragments) ≡ 1 = sym sums ∙ omega (arith, once) in
    let fine-others : unfit_in (map stored_view rows) (alone anonymous) m ≡ false = ap (λ ds. unfit_in (map stored_view rows) ds m) same ∙ none_unfit rows anonymous_role m others good-others in
    ap (broken_row (map stored_view rows) (all_stored anonymous operations fragments)) start
    ∙ or_from _ _ (not_from_true _ (eq-eqb _ 1 count))
    (list_any-append (unfit (map stored_view rows) m) operations (fragments ++ alone anonymous)
    ∙ or_from _ _ (none_unfit rows named_role m operations good-operations)
    (list_any-append (unfit (map stored_view rows) m) fragments (alone anonymous)
    ∙ or_from _ _ (none_unfit rows fragment_role m fragments good-fragments) fine-others)) in
    four_none _ _ _ _
    (ap (λ b. cond b (Some InAnonymous) None) (anonymous_clean rows others few good-others))
    (ap (told_in InOperations) (table_clean (whole_as Operation) n operations (all_in_order rows named_role 0 ks at) (All-weaker (Good rows named_role) (λ d. whole_as Operation d ≡ true) (operation_whole rows) operations good-operations) few-operations))
    (ap (told_in InFragments) (table_clean (whole_as Fragment) n fragments (all_in_order rows fragment_role 0 ks at) (All-weaker (Good rows fragment_role) (λ d. whole_as Fragment d ≡ true) (fragment_whole rows) fragments good-fragments) few-fragments))
    (ap (told_in InRows) (place_none (broken_row (map stored_view rows) (all_stored anonymous operations fragments)) 0 n row_fine))

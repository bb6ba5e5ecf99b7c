-- Kept definitions that can stand in tables, laid out, are without a fault.
use Rattle.std.proofs.Common.{◌≡◌, ℕ, ◌+◌, ◌-◌, ◌<◌, ◌≤◌, Bool, true, false, cond, ◌&&◌, ltb, leb, List, [], ◌∷◌, ◌++◌, map, length, drop, count_by, None, Option, sym, refl, ap, ◌∙◌, ⊎_elim, arith}
use Rattle.std.specs.Option.{is_some}
use Rattle.std.specs.List.{AllByRecursion}
use Rattle.std.proofs.lemmas.Bool.{leb-true, ltb-true, and_parts, or_from, cases_lt}
use Rattle.std.proofs.lemmas.List.{drop-drop, drop_at, length-append}
use Rattle.std.proofs.lemmas.List.Sums.{sum_by-cons}
use Rattle.refusal.proofs.Firsts.{no_fault}
use Rattle.layout.specs.declared.row.RowFault.{RowFault}
use Rattle.layout.specs.declared.row.RowView.{RowView}
use Rattle.layout.specs.Forest.{size, flatten}
use Rattle.layout.specs.Places.{fault_in, misfit, first_misfit}
use Rattle.layout.proofs.Tables.{length-flatten}
use Rattle.layout.proofs.Forests.{clean as forest_clean}
use Rattle.document.specs.Rows.{head_unnamed, head_broken}
use Rattle.selection_rules.specs.declared.stored.StoredRow.{StoredRow}
use Rattle.selection_rules.specs.Stored.{stored_row, stored_view, stored_selections, stored_rules}
use Rattle.building_rules.specs.Definitions.{Kept, Role, anonymous_operation, named_operation, fragment, type_system, role_of}
use Rattle.building_rules.specs.Rules.{anonymous_role, named_role, fragment_role, operation_role}
use Rattle.building_rules.specs.Storable.{Storable}
use Rattle.stored_tables.specs.declared.definition.StoredDefinition.{StoredDefinition}
use Rattle.stored_tables.specs.Layout.{stored_head, laid_out, rows_of, those_of}
use Rattle.stored_tables.specs.Verdict.{no_stored_row, holds, unfit, unfit_in}
use Rattle.stored_tables.specs.Ranges.{Placed, InOrder}
use Rattle.stored_tables.proofs.Following.{held_before, holds_inside, none_hold, in_order_from}

-- the rows of `rows` from s on are those of ks, up to the end
pub record RestIs (rows : List StoredRow) (s : ℕ) (ks : List Kept) : Type 0 where
  pub reads : drop s rows ≡ rows_of s ks
  pub ends : s + length (rows_of s ks) ≡ length rows

pub rest_next : (rows : List StoredRow) (s : ℕ) (k : Kept) (ks : List Kept) → RestIs rows s (k ∷ ks) → RestIs rows (s + size k.rows) ks
rest_next rows s k ks at =
    let own = length-flatten stored_row s k.rows in
    let all = length-append (flatten stored_row s k.rows) (rows_of (s + size k.rows) ks) in
    record {
      reads = sym (drop-drop (size k.rows) s rows) ∙ ap (drop (size k.rows)) at.reads ∙ drop_at (flatten stored_row s k.rows) (rows_of (s + size k.rows) ks) (size k.rows) own;
      ends = omega (arith, at.ends);
    }

-- what is known of a definition of these roles that is laid out among the rows
pub record Good (rows : List StoredRow) (test : Role → Bool) (d : StoredDefinition) : Type 0 where
  pub placed : Placed (length rows) d
  pub fits : first_misfit (map stored_view rows) d.row.first d.row.end 32 ≡ None
  pub role : test (role_of (stored_head d)) ≡ true
  pub named : head_unnamed (stored_head d) ≡ false
  pub whole : head_broken (stored_head d) ≡ false
  pub condition : fragment_role (role_of (stored_head d)) ≡ true → d.set_type ≡ d.row.condition

good_here : (rows : List StoredRow) (test : Role → Bool) (s : ℕ) (k : Kept) (ks : List Kept) → RestIs rows s (k ∷ ks) → Storable k → test (role_of k.head) ≡ true → Good rows test (laid_out s k)
good_here rows test s k ks at storable role =
    let next = rest_next rows s k ks at in
    let inside : s + size k.rows ≤ length rows = omega (arith, next.ends) in
    record {
      placed = record { ordered = omega arith; within = inside };
      fits =
          forest_clean stored_selections stored_rules rows no_stored_row k.rows s (s + size k.rows) 32 inside
          (record {
            stand = record { ends = refl; reads = at.reads ∙ ap (λ r. flatten stored_row s k.rows ++ r) (sym next.reads) };
            keeps = storable.rows;
            shallow = storable.shallow;
          });
      role = role;
      named = storable.named;
      whole = storable.whole;
      condition = storable.condition;
    }

all_step : (P : StoredDefinition → Type 0) (b : Bool) (d : StoredDefinition) (rest : List StoredDefinition) → (b ≡ true → P d) → AllByRecursion P rest → AllByRecursion P (cond b (d ∷ rest) rest)
all_step P true d rest here all = (here refl, all)
all_step P false d rest here all = all

-- each definition of a table is good
pub all_good : (rows : List StoredRow) (test : Role → Bool) (s : ℕ) (ks : List Kept) → RestIs rows s ks → AllByRecursion Storable ks → AllByRecursion (Good rows test) (those_of test s ks)
all_good rows test s [] at storable = tt
all_good rows test s (k ∷ ks) at storable =
    all_step (Good rows test) (test (role_of k.head)) (laid_out s k) (those_of test (s + size k.rows) ks) (good_here rows test s k ks at storable.0)
    (all_good rows test (s + size k.rows) ks (rest_next rows s k ks at) storable.1)

in_order_step : (n s : ℕ) (b : Bool) (d : StoredDefinition) (rest : List StoredDefinition) → s ≤ d.row.first → Placed n d → InOrder n d.row.end rest → InOrder n s (cond b (d ∷ rest) rest)
in_order_step n s true d rest low placed order = (low, placed, order)
in_order_step n s false d rest low placed order = in_order_from n d.row.end s rest (omega (arith, placed.ordered)) order

-- their ranges follow one another
pub all_in_order : (rows : List StoredRow) (test : Role → Bool) (s : ℕ) (ks : List Kept) → RestIs rows s ks → InOrder (length rows) s (those_of test s ks)
all_in_order rows test s [] at = tt
all_in_order rows test s (k ∷ ks) at =
    let next = rest_next rows s k ks at in
    in_order_step (length rows) s (test (role_of k.head)) (laid_out s k) (those_of test (s + size k.rows) ks) (omega arith)
    (record { ordered = omega arith; within = omega (arith, next.ends) }) (all_in_order rows test (s + size k.rows) ks next)

-- rows that fit

unfit_step : (b : Bool) (f : Option RowFault) → (b ≡ true → f ≡ None) → (b && is_some f) ≡ false
unfit_step true f none = ap is_some (none refl)
unfit_step false f none = refl

fits_here : (views : List RowView) (row : ℕ) (d : StoredDefinition) → first_misfit views d.row.first d.row.end 32 ≡ None → unfit views row d ≡ false
fits_here views row d none =
    let fault = fault_in views d.row.first d.row.end 32 in
    unfit_step (holds row d) (fault row)
    (λ held.
    let low : d.row.first ≤ row = leb-true d.row.first row (and_parts _ (ltb row d.row.end) held).0 in
    let high : row < d.row.end = ltb-true row d.row.end (and_parts (leb d.row.first row) _ held).1 in
    ap fault (omega arith) ∙ no_fault misfit fault d.row.first (d.row.end - d.row.first) none (row - d.row.first) (omega arith))

pub none_unfit : (rows : List StoredRow) (test : Role → Bool) (row : ℕ) (ds : List StoredDefinition) → AllByRecursion (Good rows test) ds → unfit_in (map stored_view rows) ds row ≡ false
none_unfit rows test row [] all = refl
none_unfit rows test row (d ∷ ds) all = or_from _ _ (fits_here (map stored_view rows) row d all.0.fits) (none_unfit rows test row ds all.1)

-- the range that a row is in

abbrev held : ℕ → StoredDefinition → ℕ
held row d = cond (holds row d) 1 0

count_step : (b : Bool) (row : ℕ) (d : StoredDefinition) (rest : List StoredDefinition) → count_by (holds row) (cond b (d ∷ rest) rest) ≡ cond b (held row d) 0 + count_by (holds row) rest
count_step true row d rest = sum_by-cons (held row) d rest
count_step false row d rest = omega arith

-- in how many ranges a row is
abbrev pub counted : ℕ → ℕ → List Kept → ℕ
counted row s ks =
    count_by (holds row) (those_of named_role s ks)
    + (count_by (holds row) (those_of fragment_role s ks) + count_by (holds row) (those_of anonymous_role s ks))

role_once : (r : Role) (x : ℕ) → (operation_role r ≡ false → fragment_role r ≡ true) → cond (named_role r) x 0 + (cond (fragment_role r) x 0 + cond (anonymous_role r) x 0) ≡ x
role_once anonymous_operation x executable = omega arith
role_once named_operation x executable = omega arith
role_once fragment x executable = omega arith
role_once type_system x executable = absurd (let no = executable refl in grind arith)

count_one : (row s : ℕ) (k : Kept) (ks : List Kept) → Storable k → counted row s (k ∷ ks) ≡ held row (laid_out s k) + counted row (s + size k.rows) ks
count_one row s k ks storable =
    let d = laid_out s k in
    let r = role_of k.head in
    let n = s + size k.rows in
    let a = count_step (named_role r) row d (those_of named_role n ks) in
    let b = count_step (fragment_role r) row d (those_of fragment_role n ks) in
    let c = count_step (anonymous_role r) row d (those_of anonymous_role n ks) in
    let once = role_once r (held row d) storable.executable in
    omega (arith, a, b, c, once)

counted_none : (rows : List StoredRow) (row s : ℕ) (ks : List Kept) → RestIs rows s ks → row < s → counted row s ks ≡ 0
counted_none rows row s ks at low =
    let a = none_hold (length rows) row s (those_of named_role s ks) low (all_in_order rows named_role s ks at) in
    let b = none_hold (length rows) row s (those_of fragment_role s ks) low (all_in_order rows fragment_role s ks at) in
    let c = none_hold (length rows) row s (those_of anonymous_role s ks) low (all_in_order rows anonymous_role s ks at) in
    omega (arith, a, b, c)

held_within : (row s : ℕ) (k : Kept) → s ≤ row → row < s + size k.rows → held row (laid_out s k) ≡ 1
held_within row s k low high = ap (λ b. cond b 1 0) (holds_inside row (laid_out s k) low high)

held_after : (row s : ℕ) (k : Kept) → s + size k.rows ≤ row → held row (laid_out s k) ≡ 0
held_after row s k past = ap (λ b. cond b 1 0) (held_before row (laid_out s k) past)

-- each row is in exactly one
pub counted_once : (rows : List StoredRow) (row s : ℕ) (ks : List Kept) → RestIs rows s ks → AllByRecursion Storable ks → s ≤ row → row < length rows → counted row s ks ≡ 1
counted_once rows row s [] at storable low high = absurd (omega (arith, at.ends))
counted_once rows row s (k ∷ ks) at storable low high =
    let n = s + size k.rows in
    let next = rest_next rows s k ks at in
    count_one row s k ks storable.0
    ∙ ⊎_elim
    (λ (here : row < n). let a = held_within row s k low here in let b = counted_none rows row n ks next here in omega (arith, a, b))
    (λ (later : n ≤ row). let a = held_after row s k later in let b = counted_once rows row n ks next storable.1 later high in omega (arith, a, b))
    (cases_lt row n)

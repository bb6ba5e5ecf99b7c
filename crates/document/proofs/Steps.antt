-- The steps of the check: one definition more.
use Rattle.std.proofs.Common.{◌≡◌, ℕ, zero, suc, ◌+◌, ◌<◌, ◌≤◌, min, Bool, true, false, cond, not, ◌&&◌, ◌||◌, eqb, ltb, List, [], ◌∷◌, length, get_or, drop, Some, None, Ok, Err, Option, sym, refl, ap, ◌∙◌, arith}
use Rattle.std.proofs.lemmas.List.{at_drop_more}
use Rattle.std.proofs.lemmas.Bool.{eqb-true, not-false, or_parts, ltb-false, false≢true}
use Rattle.refusal.specs.Firsts.{at_row, or_else, verdict_of}
use Rattle.refusal.proofs.Firsts.{at_row_none, verdict_err}
use Rattle.layout.specs.declared.row.RowFault.{RowFault}
use Rattle.layout.specs.declared.row.RowFault.TheVariants.{NameMissing, Broken}
use Rattle.layout.specs.declared.row.RowView.{RowView}
use Rattle.layout.specs.declared.row.Misfit.{Misfit}
use Rattle.layout.specs.Places.{first_misfit}
use Rattle.document.specs.declared.rows.DefinitionRow.{DefinitionRow}
use Rattle.document.specs.declared.fault.DocumentFault.{DocumentFault}
use Rattle.document.specs.declared.fault.DocumentFault.TheVariants.{InDefinitions}
use Rattle.document.specs.Sets.{no_definition_row}
use Rattle.document.specs.Rows.{head_of, head_unnamed, head_broken, is_type_system}
use Rattle.document.specs.Verdict.{misplaced, definition_fault, definitions_fault, is_nil, in_rows, rows_fault}

-- nothing is left behind the last
nil_behind : {X : Type 0} (xs : List X) (n : ℕ) → n ≤ length xs → is_nil (drop n xs) ≡ eqb n (length xs)
nil_behind [] zero low = refl
nil_behind (x ∷ xs) zero low = grind arith
nil_behind [] (suc n) low = grind arith
nil_behind (x ∷ xs) (suc n) low = nil_behind xs n (omega arith) ∙ same n (length xs)
  where
    same : (a b : ℕ) → eqb a b ≡ eqb (suc a) (suc b)
    same a b = grind arith

-- one definition more
pub definitions_step : (rows start i : ℕ) (ds : List DefinitionRow) → i < length ds
    → definitions_fault rows start i (drop i ds)
    ≡ at_row InDefinitions i (definition_fault (get_or ds i no_definition_row) start (eqb (i + 1) (length ds)) rows) (definitions_fault rows (get_or ds i no_definition_row).end (i + 1) (drop (i + 1) ds))
definitions_step rows start i ds low =
    grind (arith, at_drop_more (definitions_fault rows start i) ds i no_definition_row low, nil_behind ds (i + 1) (omega arith))

-- the check has come to the definition d at i: it has a fault, ..
pub definition_here : (rows start i : ℕ) (ds : List DefinitionRow) (d : DefinitionRow) (f : RowFault) (all : Option DocumentFault) → i < length ds → d ≡ get_or ds i no_definition_row
    → definitions_fault rows start i (drop i ds) ≡ all → Err f ≡ verdict_of (definition_fault d start (eqb (i + 1) (length ds)) rows)
    → Err (InDefinitions f (i + 1)) ≡ verdict_of all
definition_here rows start i ds d f all low is whole bad =
    let step = definitions_step rows start i ds low in
    let own = ap (λ x. definition_fault x start (eqb (i + 1) (length ds)) rows) (sym is) ∙ verdict_err _ f (sym bad) in
    ap verdict_of
    (sym (ap (λ x. at_row InDefinitions i x (definitions_fault rows (get_or ds i no_definition_row).end (i + 1) (drop (i + 1) ds))) own) ∙ sym step ∙ whole)

-- .. or it has none, and the rest is checked
pub definition_on : (rows start i : ℕ) (ds : List DefinitionRow) (d : DefinitionRow) (all : Option DocumentFault) → i < length ds → d ≡ get_or ds i no_definition_row
    → definitions_fault rows start i (drop i ds) ≡ all → Ok tt ≡ verdict_of (definition_fault d start (eqb (i + 1) (length ds)) rows)
    → definitions_fault rows d.end (i + 1) (drop (i + 1) ds) ≡ all
definition_on rows start i ds d all low is whole good = grind (arith, definitions_step rows start i ds low)

-- the rows of one definition more
pub rows_step : (views : List RowView) (i : ℕ) (ds : List DefinitionRow) → i < length ds
    → rows_fault views (drop i ds)
    ≡ or_else (in_rows (first_misfit views (get_or ds i no_definition_row).first (get_or ds i no_definition_row).end 32)) (rows_fault views (drop (i + 1) ds))
rows_step views i ds low = at_drop_more (rows_fault views) ds i no_definition_row low

-- what it says of a definition that nothing is wrong with it
pub record Placed (d : DefinitionRow) (start : ℕ) (last : Bool) (rows : ℕ) : Type 0 where
  pub named : head_unnamed (head_of d) ≡ false
  pub whole : head_broken (head_of d) ≡ false
  pub begins : d.first ≡ start
  pub forward : d.first ≤ d.end
  pub inside : d.end ≤ rows
  pub ends : last ≡ true → d.end ≡ rows
  pub bare : is_type_system (head_of d) ≡ true → d.first ≡ d.end

no_some : (a b : Bool) → cond a (Some NameMissing) (cond b (Some Broken) None) ≡ None → (a ≡ false) × (b ≡ false)
no_some true b is = grind arith
no_some false true is = grind arith
no_some false false is = (refl, refl)

-- where a test comes out false that is to hold under a premise, it holds under it
under : (a b : Bool) → (a && not b) ≡ false → a ≡ true → b ≡ true
under true b off is = not-false b off
under false b off is = absurd (false≢true is)

pub placed : (d : DefinitionRow) (start : ℕ) (last : Bool) (rows : ℕ) → definition_fault d start last rows ≡ None → Placed d start last rows
placed d start last rows fine =
    let both = no_some (head_unnamed (head_of d)) (head_broken (head_of d) || misplaced d start last rows) fine in
    let parts = or_parts (head_broken (head_of d)) (misplaced d start last rows) both.1 in
    let one = or_parts (not (eqb d.first start)) _ parts.1 in
    let two = or_parts (ltb d.end d.first) _ one.1 in
    let three = or_parts (ltb rows d.end) _ two.1 in
    let four = or_parts (last && not (eqb d.end rows)) _ three.1 in
    record {
      named = both.0;
      whole = parts.0;
      begins = eqb-true d.first start (not-false _ one.0);
      forward = ltb-false d.end d.first two.0;
      inside = ltb-false rows d.end three.0;
      ends = λ is. eqb-true d.end rows (under last (eqb d.end rows) four.0 is);
      bare = λ is. eqb-true d.first d.end (under (is_type_system (head_of d)) (eqb d.first d.end) four.1 is);
    }

-- the next definition of those that are in place
pub next_placed : (rows start i : ℕ) (ds : List DefinitionRow) → i < length ds → definitions_fault rows start i (drop i ds) ≡ None
    → Placed (get_or ds i no_definition_row) start (eqb (i + 1) (length ds)) rows × (definitions_fault rows (get_or ds i no_definition_row).end (i + 1) (drop (i + 1) ds) ≡ None)
next_placed rows start i ds low fine =
    let d = get_or ds i no_definition_row in
    let both = at_row_none InDefinitions (λ _. None) i (definition_fault d start (eqb (i + 1) (length ds)) rows) (definitions_fault rows d.end (i + 1) (drop (i + 1) ds))
    (sym (definitions_step rows start i ds low) ∙ fine) in
    (placed d start (eqb (i + 1) (length ds)) rows both.0, both.1)

-- the search in a range that is in place
pub range_search : (views : List RowView) (d : DefinitionRow) (rows start : ℕ) (last : Bool) (r : Option Misfit) → Placed d start last rows
    → r ≡ first_misfit views (min d.first (min d.end rows)) (min d.end rows) 32 → r ≡ first_misfit views d.first d.end 32
range_search views d rows start last r at is = grind (arith, at.inside, at.forward)

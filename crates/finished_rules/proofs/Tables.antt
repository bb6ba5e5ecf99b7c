-- What is read back from the tables of kept definitions is each of them, by its role and in its order.
use Rattle.std.proofs.Common.{◌≡◌, ℕ, ◌+◌, Bool, true, false, cond, List, [], ◌∷◌, ◌++◌, map, sym, refl, ap, ◌∙◌, arith}
use Rattle.layout.specs.Forest.{size, flatten}
use Rattle.layout.specs.Shapes.{Stand}
use Rattle.layout.proofs.Tables.{forest_read}
use Rattle.selection_rules.specs.declared.stored.StoredRow.{StoredRow}
use Rattle.selection_rules.specs.Stored.{stored_row, stored_selections}
use Rattle.building_rules.specs.Definitions.{Kept, Role, role_of}
use Rattle.building_rules.specs.Rules.{anonymous_role, named_role, fragment_role}
use Rattle.stored_tables.specs.declared.definition.StoredDefinition.{StoredDefinition}
use Rattle.stored_tables.specs.Layout.{laid_out, rows_of, those_of}
use Rattle.stored_tables.specs.Verdict.{alone}
use Rattle.stored_tables.proofs.LaidOut.{RestIs, rest_next}
use Rattle.stored_tables.proofs.Clean.{anonymous_length, alone_latest}
use Rattle.finished_rules.specs.Tables.{read_back, kept_as, TablesReadBack}

module _ (rows : List StoredRow) where
  back_here : (s : ℕ) (k : Kept) (ks : List Kept) → RestIs rows s (k ∷ ks) → read_back rows (laid_out s k) ≡ k
  back_here s k ks at =
      let next = rest_next rows s k ks at in
      let stand : Stand stored_selections rows s (s + size k.rows) k.rows =
      record { ends = refl; reads = at.reads ∙ ap (λ (r : List StoredRow). flatten stored_row s k.rows ++ r) (sym next.reads) } in
      ap (λ f. record { head = k.head; set_type = k.set_type; rows = f }) (forest_read stored_selections rows s (s + size k.rows) k.rows stand)

  map_step : (b : Bool) (d : StoredDefinition) (k : Kept) (rest : List StoredDefinition) (ks : List Kept) → read_back rows d ≡ k → map (read_back rows) rest ≡ ks → map (read_back rows) (cond b (d ∷ rest) rest) ≡ cond b (k ∷ ks) ks
  map_step true d k rest ks e f = rw (e, f) refl
  map_step false d k rest ks e f = f

  those_back : (test : Role → Bool) (s : ℕ) (ks : List Kept) → RestIs rows s ks → map (read_back rows) (those_of test s ks) ≡ kept_as test ks
  those_back test s [] at = refl
  those_back test s (k ∷ ks) at =
      map_step (test (role_of k.head)) (laid_out s k) k (those_of test (s + size k.rows) ks) (kept_as test ks) (back_here s k ks at)
      (those_back test (s + size k.rows) ks (rest_next rows s k ks at))

pub tables_read_back : TablesReadBack
tables_read_back ks d storable holds =
    let rows = rows_of 0 ks in
    let at : RestIs rows 0 ks = record { reads = refl; ends = omega arith } in
    let lone : alone d.anonymous ≡ those_of anonymous_role 0 ks =
    ap alone holds.anonymous ∙ alone_latest (those_of anonymous_role 0 ks) (omega (arith, anonymous_length 0 ks, storable.anonymous 0)) in
    record {
      anonymous = rw (holds.rows, lone) (those_back rows anonymous_role 0 ks at);
      operations = rw (holds.rows, holds.operations) (those_back rows named_role 0 ks at);
      fragments = rw (holds.rows, holds.fragments) (those_back rows fragment_role 0 ks at);
    }

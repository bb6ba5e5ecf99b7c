-- What a stored definition reaches in tables is what the kept definition reaches.
use Rattle.std.proofs.Common.{◌≡◌, ℕ, ◌<◌, List, [], ◌∷◌, map, length, get_or, sym, refl, ap, ◌∙◌, subst, arith}
use Rattle.std.proofs.Math.ListN.{get_or-map}
use Rattle.document.specs.Rows.{is_field, is_spread}
use Rattle.selection_rules.specs.Stored.{Stored, stored_of}
use Rattle.building_rules.specs.Definitions.{Kept}
use Rattle.building_rules.specs.Rules.{fragment_role}
use Rattle.stored_tables.specs.declared.definition.StoredDefinition.{StoredDefinition}
use Rattle.stored_tables.specs.declared.stored.StoredDocument.{StoredDocument}
use Rattle.stored_tables.specs.Layout.{rows_of, fragments_of}
use Rattle.stored_tables.specs.Verdict.{no_stored_row, definition_at}
use Rattle.finished_rules.specs.Reaches as kept
use Rattle.finished_rules.specs.Reaches.{kept_at}
use Rattle.finished_rules.specs.ReachesInTables.{row_at, fragment_at, Beneath, Names, Chain, last_of, Reaches}
use Rattle.finished_rules.specs.Numbers.{entry, numbers}
use Rattle.finished_rules.specs.Reached.{TablesReach}
use Rattle.finished_rules.proofs.Numbers.{table_rows, range_end}
use Rattle.finished_rules.proofs.Entries.{entry_at, place_of}

module _ (ks : List Kept) (d : StoredDocument) (rows : d.rows.now ≡ rows_of 0 ks) (fragments : d.fragments.now ≡ fragments_of 0 ks) where
  row_is : (p : ℕ) → stored_of (row_at d p) ≡ kept.row_at ks p
  row_is p =
      sym (get_or-map stored_of d.rows.now p no_stored_row)
      ∙ ap (λ l. get_or (map stored_of l) p kept.no_stored) rows
      ∙ ap (λ l. get_or l p kept.no_stored) (table_rows 0 ks)

  beneath_kept : (n p : ℕ) → n < length ks → Beneath (entry ks n) p → kept.Beneath ks n p
  beneath_kept n p low two = let end = range_end ks n low in record { there = low; low = two.0; high = omega (arith, end, two.1) }

  beneath_stored : (n p : ℕ) → kept.Beneath ks n p → Beneath (entry ks n) p
  beneath_stored n p b = let end = range_end ks n b.there in (b.low, omega (arith, end, b.high))

  -- a chain of spreads in tables is one of what is kept, and ends in the same definition
  record KeptChain (s : StoredDefinition) (n : ℕ) : Type 0 where
    chain : List ℕ
    holds : kept.Chain ks n chain
    there : kept.last_of n chain < length ks
    ends : s ≡ entry ks (kept.last_of n chain)

  to_kept : (fs : List ℕ) (s : StoredDefinition) (n : ℕ) → s ≡ entry ks n → n < length ks → Chain d s fs → KeptChain (last_of d s fs) n
  to_kept [] s n is low holds = record { chain = []; holds = tt; there = low; ends = is }
  to_kept (f ∷ fs) s n is low holds =
      let p = holds.0.0 in
      let names = holds.0.2 in
      let row = row_is p in
      let within : f < length (fragments_of 0 ks) = subst (λ (l : List StoredDefinition). f < length l) fragments names.there in
      let own = entry_at fragment_role ks f within in
      let g = get_or (numbers fragment_role ks) f 0 in
      let at : fragment_at d f ≡ entry ks g = ap (λ l. definition_at l f) fragments ∙ own.laid in
      let rest = to_kept fs (fragment_at d f) g at own.there holds.1 in
      let spread : kept.Names ks p g =
      record {
        spread = ap (λ (x : Stored). is_spread x.selection) (sym row) ∙ names.spread;
        there = own.there;
        fragment = own.role;
        named = ap (λ (x : StoredDefinition). x.row.name) (sym at) ∙ names.named ∙ ap (λ (x : Stored). x.selection.name) row;
      } in
      record {
        chain = g ∷ rest.chain;
        holds = ((p, beneath_kept n p low (subst (λ (x : StoredDefinition). Beneath x p) is holds.0.1), spread), rest.holds);
        there = rest.there;
        ends = rest.ends;
      }

  record StoredChain (s : StoredDefinition) (n : ℕ) : Type 0 where
    chain : List ℕ
    holds : Chain d s chain
    ends : last_of d s chain ≡ entry ks n

  to_stored : (gs : List ℕ) (s : StoredDefinition) (n : ℕ) → s ≡ entry ks n → kept.Chain ks n gs → StoredChain s (kept.last_of n gs)
  to_stored [] s n is holds = record { chain = []; holds = tt; ends = is }
  to_stored (g ∷ gs) s n is holds =
      let p = holds.0.0 in
      let names = holds.0.2 in
      let row = row_is p in
      let found = place_of fragment_role ks g names.there names.fragment in
      let f = found.0 in
      let at : fragment_at d f ≡ entry ks g = ap (λ l. definition_at l f) fragments ∙ found.2 in
      let rest = to_stored gs (fragment_at d f) g at holds.1 in
      let spread : Names d p f =
      record {
        spread = ap (λ (x : Stored). is_spread x.selection) row ∙ names.spread;
        there = subst (λ (l : List StoredDefinition). f < length l) (sym fragments) found.1;
        named = ap (λ (x : StoredDefinition). x.row.name) at ∙ names.named ∙ ap (λ (x : Stored). x.selection.name) (sym row);
      } in
      record {
        chain = f ∷ rest.chain;
        holds = ((p, subst (λ (x : StoredDefinition). Beneath x p) (sym is) (beneath_stored n p holds.0.1), spread), rest.holds);
        ends = rest.ends;
      }

  reaches_kept : (n p : ℕ) → n < length ks → Reaches d (entry ks n) p → kept.Reaches ks n p
  reaches_kept n p low r =
      let all = to_kept r.chain (entry ks n) n refl low r.holds in
      record {
        chain = all.chain;
        holds = all.holds;
        beneath = beneath_kept (kept.last_of n all.chain) p all.there (subst (λ (x : StoredDefinition). Beneath x p) all.ends r.beneath);
        field = ap (λ (x : Stored). is_field x.selection) (sym (row_is p)) ∙ r.field;
      }

  reaches_stored : (n p : ℕ) → kept.Reaches ks n p → Reaches d (entry ks n) p
  reaches_stored n p r =
      let all = to_stored r.chain (entry ks n) n refl r.holds in
      record {
        chain = all.chain;
        holds = all.holds;
        beneath = subst (λ (x : StoredDefinition). Beneath x p) (sym all.ends) (beneath_stored (kept.last_of n r.chain) p r.beneath);
        field = ap (λ (x : Stored). is_field x.selection) (row_is p) ∙ r.field;
      }

pub tables_reach : TablesReach
tables_reach ks d holds test s n at p = (
  λ r. reaches_kept ks d holds.rows holds.fragments n p at.there (subst (λ (x : StoredDefinition). Reaches d x p) at.laid r),
  λ r. subst (λ (x : StoredDefinition). Reaches d x p) (sym at.laid) (reaches_stored ks d holds.rows holds.fragments n p r),
)

-- What is read from the tables of a builder that came out of a list of calls: what is kept of them, and what is listed.
use Rattle.std.proofs.Common.{◌≡◌, ℕ, ◌+◌, ◌≤◌, Bool, List, [], ◌∷◌, length, take, drop, None, Option, sym, ap, ◌∙◌, arith}
use Rattle.std.proofs.lemmas.List.{take_at}
use Rattle.schema.specs.Meaning.{Meaning}
use Rattle.selection_rules.specs.Errors.{Error, error_rows, keys_in}
use Rattle.building_rules.specs.Definitions.{Accepted, Kept, State, fresh, kept_from, errors_from, state_after, kept_in, errors_in}
use Rattle.building_rules.specs.Bounds.{rows_kept}
use Rattle.building_rules.specs.Calls.{Call, accepted}
use Rattle.stored_tables.specs.declared.definition.StoredDefinition.{StoredDefinition}
use Rattle.stored_tables.specs.declared.tables.Tables.{Tables}
use Rattle.stored_tables.specs.Layout.{rows_of, operations_of, fragments_of, anonymous_of}
use Rattle.builder.specs.declared.builder.ExecutableDocumentBuilder.{ExecutableDocumentBuilder}
use Rattle.builder.specs.declared.filled.Filled.{Filled}
use Rattle.builder.specs.Filling.{put, output, filled_to}
use Rattle.builder.specs.Holding.{Table, entered, all_entered, Held, taken_by, location_of, state_of, filled_with, taken_in}
use Rattle.builder.specs.Adding.{held_in}
use Rattle.builder.specs.Certificate.{IsFresh, Within, Stands, Reads}
use Rattle.builder.proofs.Puts.{put_nil, set-put, put-put}
use Rattle.builder.proofs.Outputs.{length_rows}
use Rattle.builder.proofs.Kepts.{many_rows, entered_count, entered_long, same_state}

-- what is put at the front is read there
put_read : {X : Type 0} (xs : List X) (n : ℕ) (ys : List X) → n ≡ length ys → take n (put xs 0 ys) ≡ ys
put_read xs n ys long = take_at ys (drop (0 + length ys) xs) n (sym long)

-- definitions that are entered one after the other are put behind those that were there
entered_put : (t : Table) (ds : List StoredDefinition) → t.count + length ds ≤ length t.entries → (all_entered t ds).entries ≡ put t.entries t.count ds
entered_put t [] fits = sym (put_nil t.entries t.count)
entered_put t (d ∷ ds) fits =
    let low : t.count + 1 ≤ length t.entries = omega arith in
    let one = set-put t.entries t.count d (omega arith) in
    let long = ap length one in
    entered_put (entered t d) ds (omega (arith, entered_long t (d ∷ [])))
    ∙ ap (λ (l : List StoredDefinition). put l (t.count + 1) ds) one
    ∙ put-put t.entries t.count (d ∷ []) ds (t.count + 1) (omega arith) low

-- a table that was empty holds the definitions that were entered
entered_read : (start t : Table) (ds : List StoredDefinition) → start.count ≡ 0 → t ≡ all_entered start ds → t.count ≤ length t.entries → take t.count t.entries ≡ ds
entered_read start t ds empty is fits =
    let count = ap (λ (x : Table). x.count) is in
    let long = ap (λ (x : Table). length x.entries) is in
    let many = entered_count start ds in
    let same = entered_long start ds in
    let whole : t.entries ≡ put start.entries 0 ds =
    ap (λ (x : Table). x.entries) is ∙ entered_put start ds (omega arith) ∙ ap (λ (n : ℕ). put start.entries n ds) empty
    in
    ap (take t.count) whole ∙ put_read start.entries t.count ds (omega arith)

-- nothing is read of a fresh start
pub fresh_state : (h : Held) → IsFresh h → state_of h ≡ fresh
fresh_state h is =
    same_state (ap location_of is.anonymous) is.multiple (ap (taken_by h.operations.entries) is.operations) (ap (taken_by h.fragments.entries) is.fragments)

-- what is held once definitions are kept and errors listed, from the front on
abbrev pub filled_at : Held → Filled → List Kept → List Error → Bool → Held
filled_at h f ks es multiple =
    record {
      operations = all_entered h.operations (operations_of f.rows ks);
      fragments = all_entered h.fragments (fragments_of f.rows ks);
      output = output (put h.output.rows f.rows (rows_of f.rows ks)) (put h.output.errors f.errors (error_rows f.path_keys es)) (put h.output.path_keys f.path_keys (keys_in es))
          (filled_to (f.rows + rows_kept ks) (f.errors + length es) (f.path_keys + length (keys_in es)));
      anonymous = anonymous_of h.anonymous f.rows ks;
      multiple = multiple;
    }

module _ (m : Meaning) (start h : Held) (ds : List Accepted) (is : IsFresh start) (holds : h ≡ taken_in m start ds) where
  pub from_front : h ≡ filled_at start (filled_to 0 0 0) (kept_in m ds) (errors_in m ds) (state_after m fresh ds).multiple
  from_front =
      holds
      ∙ ap (λ (s : State). filled_with start (kept_from m s ds) (errors_from m s ds) (state_after m s ds).multiple) (fresh_state start is)
      ∙ ap (λ (f : Filled). filled_at start f (kept_in m ds) (errors_in m ds) (state_after m fresh ds).multiple) is.filled

  pub record Counts : Type 0 where
    pub operations : h.operations.count ≡ length (operations_of 0 (kept_in m ds))
    pub fragments : h.fragments.count ≡ length (fragments_of 0 (kept_in m ds))
    pub rows : h.output.filled.rows ≡ rows_kept (kept_in m ds)
    pub errors : h.output.filled.errors ≡ length (errors_in m ds)
    pub path_keys : h.output.filled.path_keys ≡ length (keys_in (errors_in m ds))

  pub counts : Counts
  counts =
      let operations = operations_of 0 (kept_in m ds) in
      let fragments = fragments_of 0 (kept_in m ds) in
      record {
        operations = ap (λ (x : Held). x.operations.count) from_front ∙ omega (arith, entered_count start.operations operations, is.operations);
        fragments = ap (λ (x : Held). x.fragments.count) from_front ∙ omega (arith, entered_count start.fragments fragments, is.fragments);
        rows = ap (λ (x : Held). x.output.filled.rows) from_front ∙ omega arith;
        errors = ap (λ (x : Held). x.output.filled.errors) from_front ∙ omega arith;
        path_keys = ap (λ (x : Held). x.output.filled.path_keys) from_front ∙ omega arith;
      }

  pub record Contents : Type 0 where
    pub anonymous : h.anonymous ≡ anonymous_of None 0 (kept_in m ds)
    pub operations : take h.operations.count h.operations.entries ≡ operations_of 0 (kept_in m ds)
    pub fragments : take h.fragments.count h.fragments.entries ≡ fragments_of 0 (kept_in m ds)
    pub rows : take h.output.filled.rows h.output.rows ≡ rows_of 0 (kept_in m ds)
    pub errors : take h.output.filled.errors h.output.errors ≡ error_rows 0 (errors_in m ds)
    pub path_keys : take h.output.filled.path_keys h.output.path_keys ≡ keys_in (errors_in m ds)

  pub contents : Within h → Contents
  contents within =
      let ks = kept_in m ds in
      let es = errors_in m ds in
      record {
        anonymous = ap (λ (x : Held). x.anonymous) from_front ∙ ap (λ (a : Option StoredDefinition). anonymous_of a 0 ks) is.anonymous;
        operations = entered_read start.operations h.operations (operations_of 0 ks) is.operations (ap (λ (x : Held). x.operations) from_front) within.operations_fit;
        fragments = entered_read start.fragments h.fragments (fragments_of 0 ks) is.fragments (ap (λ (x : Held). x.fragments) from_front) within.fragments_fit;
        rows =
            ap (λ (x : Held). take h.output.filled.rows x.output.rows) from_front
            ∙ put_read start.output.rows h.output.filled.rows (rows_of 0 ks) (counts.rows ∙ sym (many_rows 0 ks));
        errors =
            ap (λ (x : Held). take h.output.filled.errors x.output.errors) from_front
            ∙ put_read start.output.errors h.output.filled.errors (error_rows 0 es) (counts.errors ∙ sym (length_rows 0 es));
        path_keys =
            ap (λ (x : Held). take h.output.filled.path_keys x.output.path_keys) from_front
            ∙ put_read start.output.path_keys h.output.filled.path_keys (keys_in es) counts.path_keys;
      }

module _ {S : Type 0} (meaning : S → Meaning) (m : Meaning) (calls : List Call) (b : ExecutableDocumentBuilder S) (t : Tables) (w : Stands meaning m calls b t) where
  pub counted : Counts m w.start (held_in b.progress t) (accepted calls) w.fresh w.holds
  counted = counts m w.start (held_in b.progress t) (accepted calls) w.fresh w.holds

  pub reads : Reads m calls b.progress t
  reads =
      let c = contents m w.start (held_in b.progress t) (accepted calls) w.fresh w.holds w.within in
      record { anonymous = c.anonymous; operations = c.operations; fragments = c.fragments; rows = c.rows; errors = c.errors; path_keys = c.path_keys }

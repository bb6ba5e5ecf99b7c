-- What the certificate of a list of calls says of a builder and its tables; and how the list begins and grows.
use Rattle.std.proofs.Common.{◌≡◌, ◌↔◌, ℕ, ◌≤◌, Bool, true, false, List, [], ◌∷◌, ◌++◌, length, take, None, Option, sym, ap, ◌∙◌, subst, arith}
use Rattle.std.specs.List.{AllByRecursion}
use Rattle.std.proofs.ByRecursion.{All-append}
use Rattle.std.proofs.lemmas.Bool.{le-ltb, or_from}
use Rattle.std.proofs.lemmas.List.{append-nil, length-take, nil_from_length}
use Rattle.document.specs.declared.rows.DefinitionRow.{DefinitionRow}
use Rattle.document.specs.declared.rows.SelectionRow.{SelectionRow}
use Rattle.document.specs.Document.{Definition, IsDocument}
use Rattle.schema.specs.Meaning.{Meaning, Closed}
use Rattle.schema.specs.Law.{Lawful}
use Rattle.selection_rules.specs.declared.stored.StoredRow.{StoredRow}
use Rattle.building_rules.specs.Definitions.{accepted_from}
use Rattle.building_rules.specs.Rules.{Valid}
use Rattle.building_rules.specs.Bounds.{needs_for}
use Rattle.building_rules.specs.Calls.{Call, document_in, accepted, kept, listed_in}
use Rattle.building_rules.specs.Storable.{Sound}
use Rattle.building_rules.proofs.Histories.{documents_are_read, histories_grow}
use Rattle.building_rules.proofs.Joined.{no_errors_exactly_when_valid}
use Rattle.building_rules.proofs.Storable.{kept_is_storable}
use Rattle.stored_tables.specs.declared.definition.StoredDefinition.{StoredDefinition}
use Rattle.stored_tables.specs.declared.tables.Tables.{Tables}
use Rattle.stored_tables.specs.Verdict.{stored_fault}
use Rattle.stored_tables.proofs.Faultless.{faultless, in_one}
use Rattle.stored_tables.proofs.Clean.{clean}
use Rattle.builder.specs.declared.builder.ExecutableDocumentBuilder.{ExecutableDocumentBuilder}
use Rattle.builder.specs.Holding.{Held, taken_in}
use Rattle.builder.specs.Storing.{Indexed}
use Rattle.builder.specs.Space.{Space}
use Rattle.builder.specs.Adding.{held_in, too_short, stored_fault_in, IsIndexed}
use Rattle.builder.specs.Certificate.{IsFresh, Within, Stands, EachInOneRange, called}
use Rattle.builder.proofs.Judging.{same_stored}
use Rattle.builder.proofs.Going.{nothing_in}
use Rattle.builder.proofs.Sounds.{sound_document}
use Rattle.builder.proofs.Readings.{counted, reads}
use Rattle.builder.proofs.Growing.{restarted, again, go_on, within_after}

-- tables without a fault have each row in one range
in_one_range : (anonymous : Option StoredDefinition) (operations fragments : List StoredDefinition) (rows : List StoredRow)
    → stored_fault anonymous operations fragments rows ≡ None → EachInOneRange anonymous operations fragments rows
in_one_range anonymous operations fragments rows none = in_one anonymous operations fragments rows (faultless anonymous operations fragments rows none)

-- so long a front is only there if the list is as long
front_long : {X : Type 0} (n : ℕ) (xs : List X) → length (take n xs) ≡ n → n ≤ length xs
front_long n xs long = let own = length-take n xs in omega arith

module _ {S : Type 0} (meaning : S → Meaning) (m : Meaning) where
  module _ (calls : List Call) (b : ExecutableDocumentBuilder S) (t : Tables) (w : Stands meaning m calls b t) where
    no_stored_fault : stored_fault_in b.progress t ≡ None
    no_stored_fault =
        let r = reads meaning m calls b t w in
        same_stored _ (sym r.anonymous) (sym r.operations) (sym r.fragments) (sym r.rows) (clean (kept m calls) (kept_is_storable m (accepted calls) w.sound))

    -- the tables are those that the builder filled
    pub never_stale : (too_short b.progress t ≡ false) × (stored_fault_in b.progress t ≡ None) × IsIndexed b.progress t
    never_stale = (
      or_from _ _ (le-ltb _ _ w.within.operations_fit)
          (or_from _ _ (le-ltb _ _ w.within.fragments_fit)
          (or_from _ _ (le-ltb _ _ w.within.rows_fit) (or_from _ _ (le-ltb _ _ w.within.errors_fit) (le-ltb _ _ w.within.keys_fit)))),
      no_stored_fault,
      record {
        operations_long = front_long 512 t.operation_slots.now w.operations.slots;
        operations = w.operations.sound;
        fragments_long = front_long 512 t.fragment_slots.now w.fragments.slots;
        fragments = w.fragments.sound;
      },
    )

    pub one_range : EachInOneRange b.progress.anonymous (take b.progress.operations t.operations.now) (take b.progress.fragments t.fragments.now) (take b.progress.filled.rows t.rows.now)
    one_range =
        in_one_range b.progress.anonymous (take b.progress.operations t.operations.now) (take b.progress.fragments t.fragments.now) (take b.progress.filled.rows t.rows.now)
        no_stored_fault

    -- no error is listed exactly when the accepted definitions keep the eight rules
    pub judged_valid : Lawful m → Closed m → (b.progress.filled.errors ≡ 0) ↔ Valid m (accepted calls)
    judged_valid lawful closed =
        let count = (counted meaning m calls b t w).errors in
        let valid = no_errors_exactly_when_valid m lawful closed (accepted calls) in
        (λ none. valid.0 (nil_from_length (listed_in m calls) (sym count ∙ none)), λ is. count ∙ ap length (valid.1 is))

    module _ (definitions : List DefinitionRow) (rows : List SelectionRow) (strict : Bool) (next : ExecutableDocumentBuilder S) (after : Tables) (same : meaning next.schema.now ≡ meaning b.schema.now) where
      -- a document that is added
      pub stands_longer : (d : List Definition) → IsDocument definitions rows d → Space (held_in b.progress t) (needs_for (accepted_from strict d))
          → held_in next.progress after ≡ taken_in m (held_in b.progress t) (accepted_from strict (document_in definitions rows))
          → Indexed (held_in next.progress after).operations → Indexed (held_in next.progress after).fragments
          → Stands meaning m (calls ++ called definitions rows strict false ∷ []) next after
      stands_longer d is space holds operations fragments =
          let h = held_in b.progress t in
          let ds = accepted calls in
          let read = documents_are_read definitions rows d is in
          let new = accepted_from strict d in
          let grown : accepted (calls ++ called definitions rows strict false ∷ []) ≡ ds ++ new = histories_grow calls (called definitions rows strict false) ∙ ap (λ x. ds ++ accepted_from strict x) read in
          let taken : held_in next.progress after ≡ taken_in m h new = holds ∙ ap (λ x. taken_in m h (accepted_from strict x)) read in
          record {
            schema = same ∙ w.schema;
            start = restarted w.start h;
            fresh = again m w.start h ds w.fresh w.holds;
            holds = taken ∙ go_on m w.start h ds w.fresh w.holds w.within new ∙ ap (taken_in m (restarted w.start h)) (sym grown);
            sound = subst (AllByRecursion Sound) (sym grown) (All-append Sound ds new w.sound (sound_document strict d is.keep));
            within = subst Within (sym taken) (within_after m h new space);
            operations = operations;
            fragments = fragments;
          }

      -- a call that is refused
      pub stands_refused : held_in next.progress after ≡ held_in b.progress t → Stands meaning m (calls ++ called definitions rows strict true ∷ []) next after
      stands_refused holds =
          let grown : accepted calls ≡ accepted (calls ++ called definitions rows strict true ∷ []) = sym (histories_grow calls (called definitions rows strict true) ∙ append-nil (accepted calls)) in
          record {
            schema = same ∙ w.schema;
            start = w.start;
            fresh = w.fresh;
            holds = holds ∙ w.holds ∙ ap (taken_in m w.start) grown;
            sound = subst (AllByRecursion Sound) grown w.sound;
            within = subst Within (sym holds) w.within;
            operations = subst (λ (x : Held). Indexed x.operations) (sym holds) w.operations;
            fragments = subst (λ (x : Held). Indexed x.fragments) (sym holds) w.fragments;
          }

  -- a builder that holds nothing
  pub stands_fresh : (b : ExecutableDocumentBuilder S) (t : Tables) → meaning b.schema.now ≡ m → IsFresh (held_in b.progress t)
      → Indexed (held_in b.progress t).operations → Indexed (held_in b.progress t).fragments → Stands meaning m [] b t
  stands_fresh b t schema is operations fragments =
      let h = held_in b.progress t in
      let rows : h.output.filled.rows ≡ 0 = ap (λ x. x.rows) is.filled in
      let errors : h.output.filled.errors ≡ 0 = ap (λ x. x.errors) is.filled in
      let keys : h.output.filled.path_keys ≡ 0 = ap (λ x. x.path_keys) is.filled in
      record {
        schema = schema;
        start = h;
        fresh = is;
        holds = sym (nothing_in m h);
        sound = tt;
        within = record {
          operations_fit = omega (arith, is.operations);
          operations_few = omega (arith, is.operations);
          fragments_fit = omega (arith, is.fragments);
          fragments_few = omega (arith, is.fragments);
          rows_fit = omega (arith, rows);
          rows_few = omega (arith, rows);
          errors_fit = omega (arith, errors);
          errors_few = omega (arith, errors);
          keys_fit = omega (arith, keys);
          keys_few = omega (arith, keys);
        };
        operations = operations;
        fragments = fragments;
      }

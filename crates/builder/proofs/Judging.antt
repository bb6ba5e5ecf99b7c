-- The first fault of sizes and rows, part by part; and what a document that can be added finds.
use Rattle.std.proofs.Common.{◌≡◌, ℕ, ◌+◌, ◌≤◌, min, Bool, true, false, cond, List, length, Some, None, Option, option_map, sym, refl, ap, ◌∙◌, subst, arith}
use Rattle.std.proofs.lemmas.List.{length-take-le}
use Rattle.std.proofs.lemmas.Bool.{ltb-false, or_parts}
use Rattle.refusal.specs.Firsts.{or_else}
use Rattle.document.specs.declared.rows.DefinitionRow.{DefinitionRow}
use Rattle.document.specs.declared.rows.SelectionRow.{SelectionRow}
use Rattle.document.specs.declared.fault.DocumentFault.{DocumentFault}
use Rattle.document.specs.declared.handed.needs.Needs.{Needs}
use Rattle.document.specs.Document.{Definition, IsDocument}
use Rattle.document.specs.Needs.{needs_of}
use Rattle.building_rules.specs.Calls.{document_in}
use Rattle.building_rules.proofs.Histories.{documents_are_read}
use Rattle.building_rules.proofs.Fits.{needs_of_documents}
use Rattle.selection_rules.specs.declared.stored.StoredRow.{StoredRow}
use Rattle.stored_tables.specs.declared.definition.StoredDefinition.{StoredDefinition}
use Rattle.stored_tables.specs.declared.tables.Tables.{Tables}
use Rattle.stored_tables.specs.declared.fault.StoredFault.{StoredFault}
use Rattle.stored_tables.specs.Verdict.{stored_fault}
use Rattle.builder.specs.declared.progress.Progress.{Progress}
use Rattle.builder.specs.declared.fault.BuilderFault.{BuilderFault}
use Rattle.builder.specs.declared.fault.BuilderFault.TheVariants.{Document, TableTooShort, Stored}
use Rattle.builder.specs.Space.{Space}
use Rattle.builder.specs.Taking.{AllReady}
use Rattle.builder.specs.Adding.{held_in, too_short, IsIndexed, passes, crowded}

-- the parts, one after the other
abbrev parts : Option DocumentFault → Bool → Option StoredFault → Option DocumentFault → Option BuilderFault
parts sizes short stored layout =
    or_else (option_map Document sizes) (or_else (cond short (Some TableTooShort) None) (or_else (option_map Stored stored) (option_map Document layout)))

pub by_sizes : (sizes : Option DocumentFault) (short : Bool) (stored : Option StoredFault) (layout : Option DocumentFault) (f : DocumentFault) → sizes ≡ Some f → parts sizes short stored layout ≡ Some (Document f)
by_sizes sizes short stored layout f a = rw a refl

pub by_length : (sizes : Option DocumentFault) (short : Bool) (stored : Option StoredFault) (layout : Option DocumentFault) → sizes ≡ None → short ≡ true → parts sizes short stored layout ≡ Some TableTooShort
by_length sizes short stored layout a b = rw (a, b) refl

pub by_stored : (sizes : Option DocumentFault) (short : Bool) (stored : Option StoredFault) (layout : Option DocumentFault) (f : StoredFault) → sizes ≡ None → short ≡ false → stored ≡ Some f → parts sizes short stored layout ≡ Some (Stored f)
by_stored sizes short stored layout f a b c = rw (a, b, c) refl

pub by_layout : (sizes : Option DocumentFault) (short : Bool) (stored : Option StoredFault) (layout r : Option DocumentFault) → sizes ≡ None → short ≡ false → stored ≡ None → or_else sizes layout ≡ r
    → parts sizes short stored layout ≡ option_map Document r
by_layout sizes short stored layout r a b c d = rw (a, b, c) (ap (option_map Document) (ap (λ (x : Option DocumentFault). or_else x layout) (sym a) ∙ d))

-- where the tables are long enough and what is stored is in order, only what is handed over counts
pub handed_only : (sizes : Option DocumentFault) (short : Bool) (stored : Option StoredFault) (layout : Option DocumentFault) → short ≡ false → stored ≡ None
    → parts sizes short stored layout ≡ or_else (option_map Document sizes) (option_map Document layout)
handed_only sizes short stored layout a b = rw (a, b) refl

-- a fault of equal parts is the same
pub same_stored : {a a' : Option StoredDefinition} {x x' y y' : List StoredDefinition} {z z' : List StoredRow} (r : Option StoredFault)
    → a ≡ a' → x ≡ x' → y ≡ y' → z ≡ z' → stored_fault a x y z ≡ r → stored_fault a' x' y' z' ≡ r
same_stored r p q s t is = cc

-- no definition and no row is at fault
pub no_fault : (sizes : Option DocumentFault) (short : Bool) (stored : Option StoredFault) (layout : Option DocumentFault) → sizes ≡ None → short ≡ false → stored ≡ None → None ≡ or_else sizes layout → parts sizes short stored layout ≡ None
no_fault sizes short stored layout a b c d = by_layout sizes short stored layout None a b c (sym d)

-- where nothing passes, there is room
fits : (filled needed long limit : ℕ) → passes filled needed long limit ≡ false → filled + needed ≤ min long limit
fits filled needed long limit is = let low = ltb-false (min long limit) (filled + needed) is in omega arith

module _ (p : Progress) (t : Tables) where
  pub roomy : (n : Needs) → crowded p t n ≡ false → Space (held_in p t) n
  roomy n is =
      let a = or_parts _ _ is in
      let b = or_parts _ _ a.1 in
      let c = or_parts _ _ b.1 in
      let d = or_parts _ _ c.1 in
      let operations = fits p.operations n.operations (length t.operations.now) 256 a.0 in
      let fragments = fits p.fragments n.fragments (length t.fragments.now) 256 b.0 in
      let rows = fits p.filled.rows n.rows (length t.rows.now) 16384 c.0 in
      let errors = fits p.filled.errors n.errors (length t.errors.now) 16384 d.0 in
      let keys = fits p.filled.path_keys n.path_keys (length t.path_keys.now) 131072 d.1 in
      record {
        operations_fit = omega arith;
        operations_few = omega arith;
        fragments_fit = omega arith;
        fragments_few = omega arith;
        rows_fit = omega arith;
        rows_few = omega arith;
        errors_fit = omega arith;
        errors_few = omega arith;
        keys_fit = omega arith;
        keys_few = omega arith;
      }

  -- the needs are those of the document that the tables hold
  pub same_needs : (definitions : List DefinitionRow) (rows : List SelectionRow) (d : List Definition) (n : Needs) (b : Bool) → IsDocument definitions rows d → n ≡ needs_of d
      → crowded p t n ≡ b → crowded p t (needs_of (document_in definitions rows)) ≡ b
  same_needs definitions rows d n b is needs free =
      ap (λ (x : List Definition). crowded p t (needs_of x)) (documents_are_read definitions rows d is) ∙ ap (crowded p t) (sym needs) ∙ free

  -- a document that is not refused finds space and indexes
  pub all_ready : (definitions : List DefinitionRow) (rows : List SelectionRow) (strict : Bool) (d : List Definition) (n : Needs) → IsDocument definitions rows d → n ≡ needs_of d
      → too_short p t ≡ false → IsIndexed p t → crowded p t n ≡ false → AllReady definitions rows strict d (held_in p t)
  all_ready definitions rows strict d n is needs long indexed free =
      let a = or_parts _ _ long in
      let b = or_parts _ _ a.1 in
      let operations-long = ltb-false (length t.operations.now) p.operations a.0 in
      let fragments-long = ltb-false (length t.fragments.now) p.fragments b.0 in
      record {
        is = is;
        space = subst (Space (held_in p t)) (needs ∙ sym (needs_of_documents strict d)) (roomy n free);
        operations = record { fits = omega arith; slots = length-take-le 512 t.operation_slots.now indexed.operations_long; sound = indexed.operations };
        fragments = record { fits = omega arith; slots = length-take-le 512 t.fragment_slots.now indexed.fragments_long; sound = indexed.fragments };
      }

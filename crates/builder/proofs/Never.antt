-- Where tables and indexes are a builder's own, only what is handed over, and want of room, is at fault.
use Rattle.std.proofs.Common.{◌≡◌, false, List, Some, None, Err, Option, Result, option_map, sym, ◌∙◌, subst, arith}
use Rattle.refusal.specs.Firsts.{or_else}
use Rattle.document.specs.declared.rows.DefinitionRow.{DefinitionRow}
use Rattle.document.specs.declared.rows.SelectionRow.{SelectionRow}
use Rattle.document.specs.declared.fault.DocumentFault.{DocumentFault}
use Rattle.stored_tables.specs.declared.tables.Tables.{Tables}
use Rattle.builder.specs.declared.progress.Progress.{Progress}
use Rattle.builder.specs.declared.fault.BuilderFault.{BuilderFault}
use Rattle.builder.specs.declared.fault.BuilderFault.TheVariants.{Document}
use Rattle.builder.specs.Adding.{too_short, stored_fault_in, IsIndexed, Answers, faulty, unfit, full, added}
use Rattle.builder.specs.Certificate.{NeverStale}
use Rattle.builder.proofs.Judging.{handed_only}

handed_fault : (sizes layout : Option DocumentFault) (f : BuilderFault) → or_else (option_map Document sizes) (option_map Document layout) ≡ Some f → NeverStale (Err f)
handed_fault None None f is = absurd (grind arith)
handed_fault None (Some x) f is = let same : Document x ≡ f = cc in subst (λ (y : BuilderFault). NeverStale (Err y)) same tt
handed_fault (Some x) layout f is = let same : Document x ≡ f = cc in subst (λ (y : BuilderFault). NeverStale (Err y)) same tt

module _ (p : Progress) (t : Tables) (definitions : List DefinitionRow) (rows : List SelectionRow) (long : too_short p t ≡ false) (clean : stored_fault_in p t ≡ None) (indexed : IsIndexed p t) where
  pub never : (r : Result Unit BuilderFault) → Answers p t definitions rows r → NeverStale r
  never _ (faulty f is) = handed_fault _ _ f (sym (handed_only _ _ _ _ long clean) ∙ is)
  never _ (unfit fine other) = absurd (other indexed)
  never _ (full fine fits many) = tt
  never _ (added fine fits few) = tt

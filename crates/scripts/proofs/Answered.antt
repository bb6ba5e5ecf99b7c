-- The answer to a call, from the calls before it.
use Rattle.std.proofs.Common.{◌≡◌, Bool, true, false, cond, List, Some, None, Option, Result, option_map, sym, refl, ◌∙◌}
use Rattle.std.specs.Result.{result_err}
use Rattle.refusal.specs.Firsts.{or_else}
use Rattle.document.specs.declared.handed.needs.Needs.{Needs}
use Rattle.document.specs.declared.fault.DocumentFault.{DocumentFault}
use Rattle.schema.specs.Meaning.{Meaning}
use Rattle.building_rules.specs.Calls.{Call}
use Rattle.stored_tables.specs.declared.tables.Tables.{Tables}
use Rattle.builder.specs.declared.builder.ExecutableDocumentBuilder.{ExecutableDocumentBuilder}
use Rattle.builder.specs.declared.fault.BuilderFault.{BuilderFault}
use Rattle.builder.specs.declared.fault.BuilderFault.TheVariants.{Document, NoRoom}
use Rattle.builder.specs.Adding.{crowded, Answers, faulty, unfit, full, added}
use Rattle.builder.specs.Certificate.{Stands}
use Rattle.builder.proofs.Judging.{handed_only}
use Rattle.builder.proofs.Readings.{counted}
use Rattle.builder.proofs.Standing.{never_stale}
use Rattle.scripts.specs.declared.script.Adding.{Adding}
use Rattle.scripts.specs.Script.{lengths_of, no_room, answer_to}

-- the fault of a document in its two parts
in_parts : (sizes layout : Option DocumentFault) → option_map Document (or_else sizes layout) ≡ or_else (option_map Document sizes) (option_map Document layout)
in_parts None layout = refl
in_parts (Some f) layout = refl

by_fault : (fault : Option BuilderFault) (f : BuilderFault) (rest : Option BuilderFault) → fault ≡ Some f → Some f ≡ or_else fault rest
by_fault fault f rest is = rw is refl

by_room : (fault : Option BuilderFault) (b c : Bool) → fault ≡ None → b ≡ c → cond c (Some NoRoom) None ≡ or_else fault (cond b (Some NoRoom) None)
by_room fault b c none is = rw (none, is) refl

module _ {S : Type 0} (meaning : S → Meaning) (m : Meaning) (calls : List Call) (b : ExecutableDocumentBuilder S) (t : Tables) (w : Stands meaning m calls b t) where
  -- the counts are those of what is kept and listed
  same_room : (n : Needs) → no_room (lengths_of t) m calls n ≡ crowded b.progress t n
  same_room n =
      let k = counted meaning m calls b t w in
      rw (k.operations, k.fragments, k.rows, k.errors, k.path_keys) refl

  pub answered : (a : Adding) (r : Result Unit BuilderFault) → Answers b.progress t a.document.definitions.now a.document.rows.now r → result_err r ≡ answer_to (lengths_of t) m calls a
  answered a _ (faulty f is) =
      let own = never_stale meaning m calls b t w in
      by_fault _ f _ (in_parts _ _ ∙ sym (handed_only _ _ _ _ own.0 own.1) ∙ is)
  answered a _ (unfit fine other) = absurd (other (never_stale meaning m calls b t w).2)
  answered a _ (full fine fits many) =
      let own = never_stale meaning m calls b t w in
      by_room _ _ true (in_parts _ _ ∙ sym (handed_only _ _ _ _ own.0 own.1) ∙ fine) (same_room _ ∙ many)
  answered a _ (added fine fits few) =
      let own = never_stale meaning m calls b t w in
      by_room _ _ false (in_parts _ _ ∙ sym (handed_only _ _ _ _ own.0 own.1) ∙ fine) (same_room _ ∙ few)

-- What is lent to a walk is long enough for what a builder that came out of calls has stored.
use Rattle.std.proofs.Common.{◌≡◌, ℕ, ◌+◌, ◌*◌, ◌≤◌, min, Bool, true, false, List, length, take, Some, refl, sym, ap, ◌∙◌, arith}
use Rattle.std.proofs.lemmas.Bool.{le-ltb, ltb-false, or_from, or_parts}
use Rattle.std.proofs.lemmas.List.{length-take}
use Rattle.schema.specs.Meaning.{Meaning}
use Rattle.building_rules.specs.Definitions.{Kept}
use Rattle.building_rules.specs.Calls.{Call, kept}
use Rattle.stored_tables.specs.declared.tables.Tables.{Tables}
use Rattle.walking.specs.declared.judge.Lengths.{Lengths}
use Rattle.walking.specs.Answers.{lengths}
use Rattle.walking.specs.Refusals.{short_for}
use Rattle.builder.specs.declared.builder.ExecutableDocumentBuilder.{ExecutableDocumentBuilder}
use Rattle.builder.specs.Certificate.{Stands}
use Rattle.builder.specs.Lent.{SameLengths}
use Rattle.builder.proofs.Readings.{counted}
use Rattle.executable.specs.declared.fault.ExecutableFault.{ExecutableFault}
use Rattle.executable.specs.declared.fault.ExecutableFault.TheVariants.{TableTooShort, WalkTooShort, Stored, IndexUnfit, NoOperation}
use Rattle.executable.specs.Walking.{short_for_kept, KeptRefused}
use Rattle.scripts.specs.Outcomes.{walk_short}

-- what is enough for more fragments and rows is enough for fewer
enough_for_fewer : (f g r q : ℕ) (stack marks list : ℕ) → g ≤ f → q ≤ r → short_for f r (lengths stack marks (Some list)) ≡ false → short_for g q (lengths stack marks (Some list)) ≡ false
enough_for_fewer f g r q stack marks list fewer less long =
    let parts = or_parts _ _ long in
    let others = or_parts _ _ parts.1 in
    let a = ltb-false stack (33 * (f + 1)) parts.0 in
    let b = ltb-false marks f others.0 in
    let c = ltb-false list r others.1 in
    let stacks = le-ltb stack (33 * (g + 1)) (omega arith) in
    let marked = le-ltb marks g (omega arith) in
    let listed = le-ltb list q (omega arith) in
    or_from _ _ stacks (or_from _ _ marked listed)

module _ {S : Type 0} (meaning : S → Meaning) (m : Meaning) (calls : List Call) (b : ExecutableDocumentBuilder S) (t : Tables) (w : Stands meaning m calls b t) where
  -- what tables of these lengths can need is enough
  pub long_enough : (before : Tables) → SameLengths before t → (stack marks list : ℕ) → walk_short before stack marks list ≡ false
      → short_for_kept (kept m calls) (lengths stack marks (Some list)) ≡ false
  long_enough before same stack marks list long =
      let k = counted meaning m calls b t w in
      let fragments = k.fragments in
      let rows = k.rows in
      let many = same.fragments in
      let each = same.rows in
      let a = w.within.fragments_fit in
      let b = w.within.fragments_few in
      let c = w.within.rows_fit in
      let d = w.within.rows_few in
      enough_for_fewer _ _ _ _ stack marks list (omega arith) (omega arith) long

-- what came out of calls is refused for what is lent, or for want of the operation
pub for_what_is_lent : (ks : List Kept) (operation : ℕ) (lent : Lengths) (f : ExecutableFault) → KeptRefused ks operation lent f
    → (f ≡ NoOperation → ⊥) → short_for_kept ks lent ≡ true
for_what_is_lent ks operation lent TableTooShort kept other = absurd kept
for_what_is_lent ks operation lent WalkTooShort kept other = kept
for_what_is_lent ks operation lent (Stored f) kept other = absurd kept
for_what_is_lent ks operation lent IndexUnfit kept other = absurd kept
for_what_is_lent ks operation lent NoOperation kept other = absurd (other refl)

-- A list that is long enough for the rows takes all places.
use Rattle.std.proofs.Common.{◌≡◌, ℕ, ◌+◌, ◌*◌, ◌||◌, List, ◌++◌, length, drop, Some, ◌∙◌, arith}
use Rattle.std.proofs.lemmas.Bool.{or_parts, ltb-false}
use Rattle.std.specs.Prelude.{nat_lt}
use Rattle.finished_tables.specs.declared.indexed.IndexedDocument.{IndexedDocument}
use Rattle.walking.specs.Lent.{written_over}
use Rattle.walking.specs.Answers.{lengths, FieldsOf}
use Rattle.walking.proofs.Exact.{few}
use Rattle.walking.proofs.Few.{all_written}
use Rattle.walking.proofs.Shapes.{walkable}

pub in_whole : (d : IndexedDocument) (operation stack marks : ℕ) (old new : List ℕ) (n : ℕ)
    → FieldsOf d operation (lengths stack marks (Some (length old))) (λ places. new ≡ written_over old places) n
    → FieldsOf d operation (lengths stack marks (Some (length old))) (λ places. new ≡ places ++ drop (length places) old) n
in_whole d operation stack marks old new n of =
    let ok = walkable d operation (lengths stack marks (Some (length old))) of.definition of.accepted in
    let low = few d.stored of.definition ok of.places of.lists.listing in
    let fits = or_parts (nat_lt stack (33 * (length d.stored.fragments.now + 1))) (nat_lt marks (length d.stored.fragments.now) || nat_lt (length old) (length d.stored.rows.now)) of.accepted.long in
    let long = ltb-false (length old) (length d.stored.rows.now) (or_parts (nat_lt marks (length d.stored.fragments.now)) (nat_lt (length old) (length d.stored.rows.now)) fits.1).1 in
    record {
      definition = of.definition;
      accepted = of.accepted;
      places = of.places;
      lists = of.lists;
      counted = of.counted;
      listed = of.listed ∙ all_written old of.places (omega arith);
    }

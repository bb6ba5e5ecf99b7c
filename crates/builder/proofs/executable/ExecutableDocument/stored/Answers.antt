-- What is read of a finished document is what is kept, and it is in order.
use Rattle.std.proofs.Common.{length, sym, ap, ◌∙◌}
use Rattle.std.proofs.lemmas.List.{length-take-le}
use Rattle.building_rules.proofs.Storable.{kept_is_storable}
use Rattle.stored_tables.proofs.Clean.{clean}
use Rattle.builder.proofs.Judging.{same_stored}
use Rattle.builder.proofs.executable.ExecutableDocument.stored.Goals as goal

pub returns-clause-kept : goal.returns-clause-kept
returns-clause-kept g c m calls w =
    let anonymous = w.anonymous in
    let operations = c.in_use.ensures ∙ w.operations in
    let fragments = c.in_use-2.ensures ∙ w.fragments in
    let rows = c.in_use-3.ensures ∙ w.rows in
    record {
      holds = record { anonymous = anonymous; operations = operations; fragments = fragments; rows = rows };
      clean = same_stored _ (sym anonymous) (sym operations) (sym fragments) (sym rows) (clean _ (kept_is_storable m _ w.sound));
      indexes = record {
        operations_long = ap length c.in_use-4.ensures ∙ length-take-le 512 _ w.operation_slots;
        operations = rw (c.in_use.ensures, c.in_use-4.ensures) w.operation_index;
        fragments_long = ap length c.in_use-5.ensures ∙ length-take-le 512 _ w.fragment_slots;
        fragments = rw (c.in_use-2.ensures, c.in_use-5.ensures) w.fragment_index;
      };
    }

-- What is finished came out of the same calls.
use Rattle.std.proofs.lemmas.Bool.{le-ltb, or_from}
use Rattle.builder.proofs.Readings.{reads}
use Rattle.builder.proofs.Standing.{never_stale}
use Rattle.builder.proofs.builder.ExecutableDocumentBuilder.build.Goals as goal

pub returns-clause-calls : goal.returns-clause-calls
returns-clause-calls g c m calls tables w =
    let b = c.args.self in
    let r = reads g.S.Schema.meaning m calls b tables w in
    let own = never_stale g.S.Schema.meaning m calls b tables w in
    let fits = w.within in
    record {
      schema = w.schema;
      sound = w.sound;
      long = or_from _ _ (le-ltb _ _ fits.operations_fit) (or_from _ _ (le-ltb _ _ fits.fragments_fit) (le-ltb _ _ fits.rows_fit));
      anonymous = r.anonymous;
      operations = r.operations;
      fragments = r.fragments;
      rows = r.rows;
      operation_slots = own.2.operations_long;
      operation_index = own.2.operations;
      fragment_slots = own.2.fragments_long;
      fragment_index = own.2.fragments;
    }

-- What a builder keeps, laid out in tables, is what the check finds no fault in.
use Rattle.std.specs.Prelude.{◌≡◌, List, None}
use Rattle.building_rules.specs.Definitions.{Kept}
use Rattle.building_rules.specs.Storable.{AllStorable}
use Rattle.stored_tables.specs.Layout.{rows_of, operations_of, fragments_of, anonymous_of}
use Rattle.stored_tables.specs.Verdict.{stored_fault}

abbrev pub LaidOutIsInOrder : Type 0
LaidOutIsInOrder =
    (ks : List Kept) → AllStorable ks → stored_fault (anonymous_of None 0 ks) (operations_of 0 ks) (fragments_of 0 ks) (rows_of 0 ks) ≡ None

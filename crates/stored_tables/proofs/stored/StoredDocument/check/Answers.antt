-- The ranges of each table are in order before the rows are looked at, and no place is past 64 bits.
use Rattle.std.proofs.Common.{length, sym, ◌∙◌, arith}
use Rattle.document.specs.declared.kinds.DefinitionKind.TheVariants.{Operation, Fragment}
use Rattle.stored_tables.specs.Verdict.{whole_as}
use Rattle.stored_tables.proofs.Places.{place_below}
use Rattle.stored_tables.proofs.Following.{clean_in_order}
use Rattle.stored_tables.proofs.stored.StoredDocument.check.Goals as goal

pub overflow_add-result : goal.overflow_add-result
overflow_add-result c = let low = place_below _ 0 (length c.args.self.now.operations.now) c.in-Some.i (sym c.in-Some.ensures) in omega arith

pub overflow_add-result-in-Some-first_broken : goal.overflow_add-result-in-Some-first_broken
overflow_add-result-in-Some-first_broken c = let low = place_below _ 0 (length c.args.self.now.fragments.now) c.in-Some-first_broken.i (sym c.in-Some-first_broken.ensures) in omega arith

pub first_broken_row-requires-clause-operations : goal.first_broken_row-requires-clause-operations
first_broken_row-requires-clause-operations c = clean_in_order (whole_as Operation) (length c.args.self.now.rows.now) c.args.self.now.operations.now (sym c.first_broken.ensures ∙ c.in_default.is)

pub first_broken_row-requires-clause-fragments : goal.first_broken_row-requires-clause-fragments
first_broken_row-requires-clause-fragments c = clean_in_order (whole_as Fragment) (length c.args.self.now.rows.now) c.args.self.now.fragments.now (sym c.first_broken-2.ensures ∙ c.in_default-first_broken.is)

pub overflow_add-result-in-Some-first_broken_row : goal.overflow_add-result-in-Some-first_broken_row
overflow_add-result-in-Some-first_broken_row c = let low = place_below _ 0 (length c.args.self.now.rows.now) c.in-Some-first_broken_row.row (sym c.in-Some-first_broken_row.ensures) in omega arith

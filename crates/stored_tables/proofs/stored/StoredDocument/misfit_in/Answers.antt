-- What the layout's check finds in the range is the first row that does not fit it.
use Rattle.std.proofs.Common.{map, length}
use Rattle.selection_rules.specs.Stored.{stored_view}
use Rattle.stored_tables.proofs.Misfits.{no_misfit, some_misfit, misfit_above}
use Rattle.stored_tables.proofs.stored.StoredDocument.misfit_in.Goals as goal

pub overflow_sub-result : goal.overflow_sub-result
overflow_sub-result c = misfit_above (map stored_view c.args.self.now.rows.now) (length c.args.self.now.rows.now) c.args.definition.now c.requires c.in-Err.misfit c.in-Err.ensures.first

pub returns-in-Ok : goal.returns-in-Ok
returns-in-Ok c = no_misfit (map stored_view c.args.self.now.rows.now) (length c.args.self.now.rows.now) c.args.definition.now c.requires c.in-Ok.ensures.first

pub returns-in-Err : goal.returns-in-Err
returns-in-Err c = some_misfit (map stored_view c.args.self.now.rows.now) (length c.args.self.now.rows.now) c.args.definition.now c.requires c.in-Err.misfit c.in-Err.ensures.first

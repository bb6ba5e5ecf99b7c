-- What stands in places that nothing was written into: zeros, and in the table of errors an error 2 at location 0.
use Rattle.document.specs.Sets.{no_row, no_definition_row}
use Rattle.selection_rules.specs.declared.stored.StoredRow.{StoredRow}
use Rattle.selection_rules.specs.declared.error.BuildError.{BuildError}
use Rattle.selection_rules.specs.declared.error.BuildError.TheVariants.{AmbiguousAnonymousOperation}
use Rattle.stored_tables.specs.declared.definition.StoredDefinition.{StoredDefinition}
use Rattle.walking.specs.declared.turn.WalkStep.{WalkStep}

abbrev pub no_stored_definition : StoredDefinition
no_stored_definition = record { row = no_definition_row; set_type = 0 }

abbrev pub no_stored_row : StoredRow
no_stored_row = record { selection = no_row; place = 0; set_type = 0 }

abbrev pub no_error : BuildError
no_error = AmbiguousAnonymousOperation 0

abbrev pub no_step : WalkStep
no_step = record { next = 0; end = 0 }

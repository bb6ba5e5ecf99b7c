-- Room in the tables for what building can need.
use Rattle.std.specs.Prelude.{◌+◌, ◌≤◌, length}
use Rattle.document.specs.declared.handed.needs.Needs.{Needs}
use Rattle.builder.specs.Holding.{Held}

-- what is filled and what is needed keep the limits, and the tables are long enough
pub record Space (h : Held) (n : Needs) : Type 0 where
  pub operations_fit : h.operations.count + n.operations ≤ length h.operations.entries
  pub operations_few : h.operations.count + n.operations ≤ 256
  pub fragments_fit : h.fragments.count + n.fragments ≤ length h.fragments.entries
  pub fragments_few : h.fragments.count + n.fragments ≤ 256
  pub rows_fit : h.output.filled.rows + n.rows ≤ length h.output.rows
  pub rows_few : h.output.filled.rows + n.rows ≤ 16384
  pub errors_fit : h.output.filled.errors + n.errors ≤ length h.output.errors
  pub errors_few : h.output.filled.errors + n.errors ≤ 16384
  pub keys_fit : h.output.filled.path_keys + n.path_keys ≤ length h.output.path_keys
  pub keys_few : h.output.filled.path_keys + n.path_keys ≤ 131072

-- What is left adds up with what was counted.
use Rattle.std.proofs.Common.{◌≡◌, ◌+◌, List, drop}
use Rattle.document.specs.Document.{Definition, IsDocument}
use Rattle.document.specs.Needs.{keys_in}
use Rattle.document.proofs.handed.Document.path_keys.Given as goal

abbrev pub invariant-loop-row : goal.invariant-loop-row
invariant-loop-row l =
    (d : List Definition) → IsDocument l.self.definitions.now l.self.rows.now d → l.total + keys_in (drop l.row-index d) ≡ keys_in d

-- The definitions of a document that keeps the rules are sound.
use Rattle.std.proofs.Common.{Bool, List, [], ◌∷◌}
use Rattle.std.specs.List.{AllByRecursion}
use Rattle.document.specs.Document.{Definition, KeepsRules}
use Rattle.building_rules.specs.Definitions.{accepted_from}
use Rattle.building_rules.specs.Storable.{Sound}

pub sound_document : (strict : Bool) (document : List Definition) → AllByRecursion KeepsRules document → AllByRecursion Sound (accepted_from strict document)
sound_document strict [] keep = tt
sound_document strict (d ∷ ds) keep = (
  record { named = keep.0.named; whole = keep.0.whole; selections = keep.0.selections; shallow = keep.0.shallow },
  sound_document strict ds keep.1,
)

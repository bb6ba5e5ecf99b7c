-- What a stored definition reaches in tables is what the kept definition reaches.
use Rattle.std.specs.Prelude.{ℕ, Bool, ◌↔◌, List}
use Rattle.building_rules.specs.Definitions.{Kept, Role}
use Rattle.stored_tables.specs.declared.definition.StoredDefinition.{StoredDefinition}
use Rattle.stored_tables.specs.declared.stored.StoredDocument.{StoredDocument}
use Rattle.finished_rules.specs.Tables.{HoldsKept}
use Rattle.finished_rules.specs.Reaches.{Reaches as KeptReaches}
use Rattle.finished_rules.specs.ReachesInTables.{Reaches}
use Rattle.finished_rules.specs.Numbers.{EntryOf}

-- in tables that hold the kept definitions, from the entry of one of them
abbrev pub TablesReach : Type 0
TablesReach =
    (ks : List Kept) (d : StoredDocument) → HoldsKept ks d
    → (test : Role → Bool) (s : StoredDefinition) (n : ℕ) → EntryOf test ks s n → (p : ℕ) → Reaches d s p ↔ KeptReaches ks n p

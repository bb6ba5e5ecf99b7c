-- Tables are the same exactly when what is kept is the same.
use Rattle.std.specs.Prelude.{◌↔◌, List}
use Rattle.std.specs.List.{AllByRecursion}
use Rattle.schema.specs.Meaning.{Meaning}
use Rattle.building_rules.specs.Definitions.{Accepted, kept_in}
use Rattle.building_rules.specs.Storable.{Sound}
use Rattle.stored_tables.specs.declared.stored.StoredDocument.{StoredDocument}
use Rattle.finished_rules.specs.Same.{EachIsSame}
use Rattle.finished_rules.specs.SameTables.{SameDocuments}
use Rattle.finished_rules.specs.Tables.{HoldsKept}

-- over one schema, of definitions that keep the rules of documents
abbrev pub TablesCompare : Type 0
TablesCompare =
    (m : Meaning) (ds es : List Accepted) → AllByRecursion Sound ds → AllByRecursion Sound es
    → (a b : StoredDocument) → HoldsKept (kept_in m ds) a → HoldsKept (kept_in m es) b
    → SameDocuments a b ↔ EachIsSame (kept_in m ds) (kept_in m es)

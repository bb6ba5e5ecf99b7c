-- Where a line may stand among the rows of a schema and of its documents, and what is wrong where it may not.
use Rattle.std.specs.Prelude.{ℕ, ◌-◌, Bool, false, cond, Some, None, Option, ◌==◌}
use Rattle.line_order.specs.declared.keywords.Keyword.{Keyword}
use Rattle.line_order.specs.declared.keywords.Keyword.TheVariants as keyword
use Rattle.line_order.specs.declared.heads.DocumentHead.{DocumentHead}
use Rattle.line_order.specs.declared.heads.SchemaChoice.{SchemaChoice}
use Rattle.line_order.specs.declared.heads.SchemaChoice.TheVariants as schema
use Rattle.line_order.specs.declared.heads.TableHead.{TableHead}
use Rattle.line_order.specs.declared.rows_left.RowsLeft.{RowsLeft}
use Rattle.line_order.specs.declared.places.Misplaced.{Misplaced}
use Rattle.line_order.specs.declared.places.Misplaced.TheVariants.{NoSchemaYet, TooManyRows, RowsMissing}

-- no row is still to come
abbrev pub complete : RowsLeft → Bool
complete left = cond (left.types == 0) (cond (left.fields == 0) (cond (left.definitions == 0) (left.rows == 0) false) false) false

-- no rows at all
abbrev pub no_rows : RowsLeft
no_rows =
    record {
      types = 0;
      fields = 0;
      definitions = 0;
      rows = 0;
    }

-- the rows that follow the head of a schema
abbrev pub rows_of_schema : SchemaChoice TableHead → RowsLeft
rows_of_schema schema.Open = no_rows
rows_of_schema (schema.Table head) = record no_rows { types = head.types; fields = head.fields }

-- the rows that follow the head of a document
abbrev pub rows_of_document : DocumentHead → RowsLeft
rows_of_document head = record no_rows { definitions = head.definitions; rows = head.rows }

-- A line with a row takes one from the rows of its kind, any other none.
abbrev pub after_line : Keyword → RowsLeft → RowsLeft
after_line keyword.Type left = record left { types = left.types - 1 }
after_line keyword.Field left = record left { fields = left.fields - 1 }
after_line keyword.Definition left = record left { definitions = left.definitions - 1 }
after_line keyword.Row left = record left { rows = left.rows - 1 }
after_line keyword.Schema left = left
after_line keyword.Name left = left
after_line keyword.Ask left = left
after_line keyword.Document left = left
after_line keyword.Other left = left

-- a line with a row, before which so many others are to come, and so many of its own kind
abbrev pub row_fault : Keyword → RowsLeft → ℕ → ℕ → Option Misplaced
row_fault k left others own = cond (others == 0) (cond (own == 0) (Some (TooManyRows k)) None) (Some (RowsMissing k left))

-- a line that stands behind all rows that were counted
abbrev pub head_fault : Keyword → RowsLeft → Option Misplaced
head_fault k left = cond (complete left) None (Some (RowsMissing k left))

-- What is wrong with a line at this place. A name may be given anywhere. The types come first, then the fields, then questions
-- and documents for one builder or several up to the next schema; a document's definitions come first, then its rows.
abbrev pub place_fault : Keyword → Option RowsLeft → Option Misplaced
place_fault keyword.Name None = None
place_fault keyword.Name (Some left) = None
place_fault keyword.Schema None = None
place_fault keyword.Schema (Some left) = head_fault keyword.Schema left
place_fault keyword.Type None = Some (NoSchemaYet keyword.Type)
place_fault keyword.Type (Some left) = row_fault keyword.Type left 0 left.types
place_fault keyword.Field None = Some (NoSchemaYet keyword.Field)
place_fault keyword.Field (Some left) = row_fault keyword.Field left left.types left.fields
place_fault keyword.Ask None = Some (NoSchemaYet keyword.Ask)
place_fault keyword.Ask (Some left) = head_fault keyword.Ask left
place_fault keyword.Document None = Some (NoSchemaYet keyword.Document)
place_fault keyword.Document (Some left) = head_fault keyword.Document left
place_fault keyword.Definition None = Some (NoSchemaYet keyword.Definition)
place_fault keyword.Definition (Some left) = row_fault keyword.Definition left 0 left.definitions
place_fault keyword.Row None = Some (NoSchemaYet keyword.Row)
place_fault keyword.Row (Some left) = row_fault keyword.Row left left.definitions left.rows
place_fault keyword.Other None = Some (NoSchemaYet keyword.Other)
place_fault keyword.Other (Some left) = head_fault keyword.Other left

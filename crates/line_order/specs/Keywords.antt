-- How each keyword is written. Assumes nothing.
use Rattle.std.specs.Prelude.{◌≡◌, ◌↔◌, ℕ, List, codes, Ok, Result}
use Rattle.line_order.specs.declared.keywords.Keyword.{Keyword}
use Rattle.line_order.specs.declared.keywords.Keyword.TheVariants as keyword

abbrev pub word_of : Keyword → List ℕ
word_of keyword.Schema = codes "schema"
word_of keyword.Type = codes "type"
word_of keyword.Field = codes "field"
word_of keyword.Name = codes "name"
word_of keyword.Ask = codes "ask"
word_of keyword.Document = codes "doc"
word_of keyword.Definition = codes "def"
word_of keyword.Row = codes "row"
word_of keyword.Other = codes "other"

-- A text gives the keyword that is written so, and no other text gives one.
abbrev pub ReadsKeyword : {E : Type 0} → List ℕ → Result Keyword E → Type 0
ReadsKeyword text result = (k : Keyword) → (result ≡ Ok k) ↔ (text ≡ word_of k)

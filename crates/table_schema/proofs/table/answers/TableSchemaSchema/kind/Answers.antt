-- The kind is that of the first type of the name.
use Rattle.std.proofs.Common.{◌≡◌, ℕ, Some, None, Option, vec_items, sym, refl, ap, ◌∙◌}
use Rattle.std.specs.Result.{result_ok}
use Rattle.refusal.specs.Numbered.{case_or_unknown}
use Rattle.ordered_index.specs.Keys.{same_name}
use Rattle.schema.specs.Numbers.{kind_of_number}
use Rattle.table_schema.specs.Keys.{type_key}
use Rattle.table_schema.specs.Meaning.{no_type, kind_there}
use Rattle.table_schema.proofs.Founds.{none_place, some_place}
use Rattle.table_schema.proofs.table.answers.TableSchemaSchema.kind.Goals as goal

pub returns-in_err-row : goal.returns-in_err-row
returns-in_err-row c =
    let types = vec_items c.args.self.now.types.entries in
    c.from_residual.ensures ∙ ap (kind_there types) (sym (none_place type_key same_name c.args.type_name types (sym c.in_err-row.ensures)))

case_told : {K : Type 0} (n : ℕ) (case : Option K) → result_ok (case_or_unknown n case) ≡ case
case_told n None = refl
case_told n (Some k) = refl

pub returns : goal.returns
returns c =
    let types = vec_items c.args.self.now.types.entries in
    let row = c.in_ok-row.row.now in
    let at = some_place type_key same_name c.args.type_name types row no_type (sym c.in_ok-row.ensures) in
    c.ok.ensures.value ∙ ap result_ok c.try_from.ensures ∙ case_told row.kind (kind_of_number row.kind)
    ∙ ap (λ r. kind_of_number r.kind) (sym at.2) ∙ ap (kind_there types) (sym at.1)

-- A type is known exactly when one of the name is found.
use Rattle.std.proofs.Common.{vec_items, Option, Bor, is_some, Some, None, ap, refl, ◌≡◌, ◌∙◌}
use Rattle.std.specs.Option.{option_copied}
use Rattle.ordered_index.specs.Keys.{same_name}
use Rattle.table_schema.specs.Keys.{type_key}
use Rattle.table_schema.proofs.Founds.{any_with}
use Rattle.table_schema.proofs.table.answers.TableSchemaSchema.knows.Goals as goal

copied_some : {T : Type 0} (r : Option (Bor T)) → is_some r ≡ is_some (option_copied r)
copied_some None = refl
copied_some (Some x) = refl

pub returns : goal.returns
returns c =
    c.is_some.ensures ∙ copied_some c.find.result ∙ ap is_some c.find.ensures
    ∙ any_with type_key same_name c.args.type_name (vec_items c.args.self.now.types.entries)

-- A field that is found has an owner that is known.
use Rattle.std.proofs.Common.{vec_items, sym, ap, ◌∙◌}
use Rattle.std.proofs.lemmas.Bool.{cond-true}
use Rattle.table_schema.specs.Kept.{entry_told}
use Rattle.table_schema.proofs.Founds.{owner_known}
use Rattle.table_schema.proofs.table.answers.TableSchemaSchema.type_field.Goals as goal

pub returns-in-Some : goal.returns-in-Some
returns-in-Some c =
    let s = c.args.self.now in
    let known = owner_known (vec_items s.types.entries) (vec_items s.fields.entries) c.args.type_name c.args.field_name c.in-Some.entry.now s.owners_known (sym c.in-Some.ensures) in
    ap entry_told c.in-Some.ensures ∙ sym (cond-true _ _ _ known)

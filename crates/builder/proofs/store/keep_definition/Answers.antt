-- A definition goes where its role says.
use Rattle.std.proofs.Common.{Some, sym, ap, ◌∙◌, subst}
use Rattle.building_rules.specs.Definitions.{Role}
use Rattle.stored_tables.specs.Layout.{stored_head}
use Rattle.builder.specs.Filling.{output}
use Rattle.builder.specs.Holding.{Table, table, Held, held}
use Rattle.builder.specs.Storing.{store_as, Free}
use Rattle.builder.proofs.Roles.{named_role, fragment_role, operation_number, fragment_number}
use Rattle.builder.proofs.Entries.{indexed_more}
use Rattle.builder.proofs.store.keep_definition.Goals as goal

pub returns-in-Some-Operation-2 : goal.returns-in-Some-Operation-2
returns-in-Some-Operation-2 c =
    let p = c.args.progress in
    let d = c.args.definition in
    let role = named_role (stored_head d) (operation_number d.row.kind (sym c.in-Some-Operation.ensures ∙ ap Some c.in-Some-Operation.field-0-is)) c.if-definition-eq0.false in
    let operations = table c.args.operations.now c.args.operation_slots.now p.operations in
    let fragments = table c.args.fragments.now c.args.fragment_slots.now p.fragments in
    let free = subst (λ (r : Role). Free r d.row.name operations fragments) role c.requires.free in
    let e = c.enter_definition.ensures in
    record {
      kept = λ rows errors keys.
          let before = held p c.args.operations.now c.args.operation_slots.now c.args.fragments.now c.args.fragment_slots.now rows errors keys in
          let with-operations : Table → Held = λ t. record { operations = t; fragments = fragments; output = output rows errors keys p.filled; anonymous = p.anonymous; multiple = p.multiple_anonymous } in
          ap with-operations e.entered ∙ ap (λ (r : Role). store_as r before d) (sym role);
      operations = indexed_more operations (table c.enter_definition.new.entries c.enter_definition.new.slots c.enter_definition.result) d e.entered free.fits (c.enter_definition.auto.slots ∙ c.requires.operations.slots) e.sound;
      fragments = c.requires.fragments;
    }

pub returns-in-Some-Fragment : goal.returns-in-Some-Fragment
returns-in-Some-Fragment c =
    let p = c.args.progress in
    let d = c.args.definition in
    let role = fragment_role (stored_head d) (fragment_number d.row.kind (sym c.in-Some-Fragment.ensures ∙ ap Some c.in-Some-Fragment.field-0-is)) in
    let operations = table c.args.operations.now c.args.operation_slots.now p.operations in
    let fragments = table c.args.fragments.now c.args.fragment_slots.now p.fragments in
    let free = subst (λ (r : Role). Free r d.row.name operations fragments) role c.requires.free in
    let e = c.enter_definition-in-Some-Fragment.ensures in
    record {
      kept = λ rows errors keys.
          let before = held p c.args.operations.now c.args.operation_slots.now c.args.fragments.now c.args.fragment_slots.now rows errors keys in
          let with-fragments : Table → Held = λ t. record { operations = operations; fragments = t; output = output rows errors keys p.filled; anonymous = p.anonymous; multiple = p.multiple_anonymous } in
          ap with-fragments e.entered ∙ ap (λ (r : Role). store_as r before d) (sym role);
      operations = c.requires.operations;
      fragments = indexed_more fragments (table c.enter_definition-in-Some-Fragment.new.entries c.enter_definition-in-Some-Fragment.new.slots c.enter_definition-in-Some-Fragment.result) d e.entered free.fits (c.enter_definition-in-Some-Fragment.auto.slots ∙ c.requires.fragments.slots) e.sound;
    }

-- What becomes of one selection, by what the schema answers: the rules of the specification on fields and conditions.
use Rattle.std.specs.Prelude.{ℕ, Bool, cond, Some, None, Ok, Err, Option, Result, ◌==◌}
use Rattle.schema.specs.declared.answers.TypeKind.{TypeKind}
use Rattle.schema.specs.declared.answers.TypeKind.TheVariants.{Scalar, Object, Interface, Union, Enum, InputObject}
use Rattle.schema.specs.declared.answers.FieldDefinition.{FieldDefinition}
use Rattle.schema.specs.declared.answers.FieldLookupError.{FieldLookupError}
use Rattle.schema.specs.declared.answers.FieldLookupError.TheVariants.{NoSuchType, NoSuchField}
use Rattle.schema.specs.Meaning.{Meaning}
use Rattle.document.specs.Rows.{Selection, is_field, is_spread}
use Rattle.selection_rules.specs.declared.settling.SelectionFault.TheVariants.{UnknownCondition, OnScalar, OnEnum, UnknownField}
use Rattle.selection_rules.specs.declared.settling.Settled.{Settled}
use Rattle.selection_rules.specs.declared.settling.Settled.TheVariants.{Kept, Dropped, Faulty}

-- section 5.3.3: nothing is selected on a scalar or an enum
abbrev pub on_kind : Option TypeKind → FieldDefinition → Settled
on_kind None found = Kept found.place found.inner
on_kind (Some Scalar) found = Faulty (OnScalar found.inner)
on_kind (Some Object) found = Kept found.place found.inner
on_kind (Some Interface) found = Kept found.place found.inner
on_kind (Some Union) found = Kept found.place found.inner
on_kind (Some Enum) found = Faulty (OnEnum found.inner)
on_kind (Some InputObject) found = Kept found.place found.inner

abbrev pub found_field : Meaning → FieldDefinition → Bool → Settled
found_field m found beneath = cond beneath (on_kind (m.sort found.inner) found) (Kept found.place found.inner)

-- section 5.3.1: a field is one of the type around it
abbrev pub looked_up : Meaning → Bool → Result FieldDefinition FieldLookupError → Settled
looked_up m beneath (Ok found) = found_field m found beneath
looked_up m beneath (Err NoSuchField) = Faulty UnknownField
looked_up m beneath (Err NoSuchType) = Dropped

-- section 5.5.1.2: a condition is a known type; without one the set has the type around it
abbrev pub conditioned : Meaning → ℕ → ℕ → Settled
conditioned m around condition =
    cond (condition == 0) (Kept 0 around) (cond (m.known condition) (Kept 0 condition) (Faulty UnknownCondition))

-- a selection in the type around it
abbrev pub settled : Meaning → ℕ → Selection → Bool → Settled
settled m around s beneath =
    cond (is_field s) (looked_up m beneath (m.field around s.name))
    (cond (is_spread s) (Kept 0 0) (conditioned m around s.condition))

-- The numbers of the operation types and of the kinds of types. Assumes nothing.
use Rattle.std.specs.Prelude.{ℕ, Bool, true, false, cond, Some, None, Option, ◌==◌}
use Rattle.schema.specs.declared.answers.OperationType.{OperationType}
use Rattle.schema.specs.declared.answers.OperationType.TheVariants.{Query, Mutation, Subscription}
use Rattle.schema.specs.declared.answers.TypeKind.{TypeKind}
use Rattle.schema.specs.declared.answers.TypeKind.TheVariants.{Scalar, Object, Interface, Union, Enum, InputObject}

-- The number of an operation type.
abbrev pub operation_number : OperationType → ℕ
operation_number Query = 0
operation_number Mutation = 1
operation_number Subscription = 2

-- The operation type of a number, if any has it.
abbrev pub operation_of_number : ℕ → Option OperationType
operation_of_number n =
    cond (n == 0) (Some Query) (cond (n == 1) (Some Mutation) (cond (n == 2) (Some Subscription) None))

-- The number of a kind of type; 0 is left for no kind.
abbrev pub kind_number : TypeKind → ℕ
kind_number Scalar = 1
kind_number Object = 2
kind_number Interface = 3
kind_number Union = 4
kind_number Enum = 5
kind_number InputObject = 6

-- The kind of type of a number, if any has it.
abbrev pub kind_of_number : ℕ → Option TypeKind
kind_of_number n =
    cond (n == 1) (Some Scalar)
    (cond (n == 2) (Some Object)
    (cond (n == 3) (Some Interface)
    (cond (n == 4) (Some Union)
    (cond (n == 5) (Some Enum)
    (cond (n == 6) (Some InputObject) None)))))

-- Whether types of this kind are composite: a selection set can stand on them.
abbrev pub composite : TypeKind → Bool
composite Scalar = false
composite Object = true
composite Interface = true
composite Union = true
composite Enum = false
composite InputObject = false

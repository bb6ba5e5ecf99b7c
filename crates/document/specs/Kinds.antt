-- The kinds that the numbers of rows stand for.
use Rattle.std.specs.Prelude.{ℕ, cond, ◌&&◌, Some, None, Option, ◌==◌, nat_le}
use Rattle.document.specs.declared.kinds.SelectionKind.{SelectionKind}
use Rattle.document.specs.declared.kinds.SelectionKind.TheVariants.{Field, Spread, InlineFragment}
use Rattle.document.specs.declared.kinds.DefinitionKind.{DefinitionKind}
use Rattle.document.specs.declared.kinds.DefinitionKind.TheVariants.{Operation, Fragment, TypeSystem}

-- 1 field, 2 spread, 3 inline fragment
abbrev pub selection_kind : ℕ → Option SelectionKind
selection_kind number =
    cond (number == 1) (Some Field) (cond (number == 2) (Some Spread) (cond (number == 3) (Some InlineFragment) None))

-- 1 operation, 2 fragment, 3 to 17 type system
abbrev pub definition_kind : ℕ → Option DefinitionKind
definition_kind number =
    cond (number == 1) (Some Operation) (cond (number == 2) (Some Fragment) (cond (nat_le 3 number && nat_le number 17) (Some TypeSystem) None))

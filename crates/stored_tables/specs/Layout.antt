-- How kept definitions are laid out in tables: their rows one after the other, and for each its range of them.
use Rattle.std.specs.Prelude.{ℕ, ◌+◌, Bool, cond, List, [], ◌∷◌, ◌++◌, Some, Option}
use Rattle.layout.specs.Forest.{size, flatten}
use Rattle.document.specs.Rows.{Head, head_of, definition_row}
use Rattle.selection_rules.specs.declared.stored.StoredRow.{StoredRow}
use Rattle.selection_rules.specs.Stored.{stored_row}
use Rattle.building_rules.specs.Definitions.{Kept, Role, role_of}
use Rattle.building_rules.specs.Rules.{anonymous_role, named_role, fragment_role}
use Rattle.stored_tables.specs.declared.definition.StoredDefinition.{StoredDefinition}

-- a definition's head with the range of its stored rows and the type around them
abbrev pub stored_definition : Head → ℕ → ℕ → ℕ → StoredDefinition
stored_definition h first end set_type = record { row = definition_row h first end; set_type = set_type }

abbrev pub name_of : StoredDefinition → ℕ
name_of d = d.row.name

-- the head of a stored definition
abbrev pub stored_head : StoredDefinition → Head
stored_head d = head_of d.row

-- a kept definition whose stored rows begin at the place n
abbrev pub laid_out : ℕ → Kept → StoredDefinition
laid_out n k = stored_definition k.head n (n + size k.rows) k.set_type

-- the stored rows of kept definitions, the first of which begins at the place n
abbrev pub rows_of : ℕ → List Kept → List StoredRow
rows_of n [] = []
rows_of n (k ∷ ks) = flatten stored_row n k.rows ++ rows_of (n + size k.rows) ks

-- those of them whose role passes the test
abbrev pub those_of : (Role → Bool) → ℕ → List Kept → List StoredDefinition
those_of test n [] = []
those_of test n (k ∷ ks) =
    cond (test (role_of k.head)) (laid_out n k ∷ those_of test (n + size k.rows) ks) (those_of test (n + size k.rows) ks)

-- the named operations and the fragments
abbrev pub operations_of : ℕ → List Kept → List StoredDefinition
operations_of n ks = those_of named_role n ks

abbrev pub fragments_of : ℕ → List Kept → List StoredDefinition
fragments_of n ks = those_of fragment_role n ks

-- the latest of a list, if it has one, else what was there
abbrev pub latest : {A : Type 0} → Option A → List A → Option A
latest before [] = before
latest before (x ∷ xs) = latest (Some x) xs

-- the anonymous operation: the one that was there, unless the kept ones have one
abbrev pub anonymous_of : Option StoredDefinition → ℕ → List Kept → Option StoredDefinition
anonymous_of before n ks = latest before (those_of anonymous_role n ks)

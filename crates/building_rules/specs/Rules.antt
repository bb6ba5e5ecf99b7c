-- Eight rules of the GraphQL specification of October 2021, over the definitions of the accepted documents.
use Rattle.std.specs.Prelude.{◌≡◌, ℕ, ◌<◌, Bool, true, false, ◌&&◌, ◌||◌, ◌≢◌, ◌⊎◌, List, [], length, Some, Ok, filter, Option, ◌==◌}
use Rattle.std.specs.List.{AllByRecursion}
use Rattle.layout.specs.Forest.{Forest, none, row}
use Rattle.document.specs.Rows.{Selection, Head}
use Rattle.schema.specs.declared.answers.TypeKind.{TypeKind}
use Rattle.schema.specs.declared.answers.TypeKind.TheVariants.{Scalar, Enum}
use Rattle.schema.specs.declared.answers.FieldDefinition.{FieldDefinition}
use Rattle.schema.specs.Meaning.{Meaning}
use Rattle.selection_rules.specs.Stored.{field, spread, inline, form_of}
use Rattle.building_rules.specs.Definitions.{Accepted, Role, anonymous_operation, named_operation, fragment, type_system, role_of, operation_of}

-- Which selection stands where

-- in the type `around`, what stands beneath the selection s is in the type `inner`: a field's inner type, an inline
-- fragment's condition, else the type around
pub data Inside (m : Meaning) (around : ℕ) (s : Selection) : ℕ → Type 0 where
  of_field : (x : FieldDefinition) → form_of s ≡ field → m.field around s.name ≡ Ok x → Inside m around s x.inner
  of_condition : form_of s ≡ inline → s.condition ≢ 0 → Inside m around s s.condition
  of_around : form_of s ≡ inline → s.condition ≡ 0 → Inside m around s around
  of_spread : form_of s ≡ spread → Inside m around s around

-- among the selections f, which are in the type `around`, and anywhere beneath them, stands the selection s, in the type
-- t, with the selections `below` beneath it
pub data Stands (m : Meaning) : ℕ → Forest Selection → ℕ → Selection → Forest Selection → Type 0 where
  here : {around : ℕ} {s : Selection} {below after : Forest Selection} → Stands m around (row s below after) around s below
  later : {around : ℕ} {b : Selection} {under after : Forest Selection} {t : ℕ} {s : Selection} {below : Forest Selection}
      → Stands m around after t s below → Stands m around (row b under after) t s below
  deeper : {around : ℕ} {b : Selection} {under after : Forest Selection} {t : ℕ} {s : Selection} {below : Forest Selection} (inner : ℕ)
      → Inside m around b inner → Stands m inner under t s below → Stands m around (row b under after) t s below

-- x stands somewhere in a forest
pub data Occurs {A : Type 0} (x : A) : Forest A → Type 0 where
  here : {below after : Forest A} → Occurs x (row x below after)
  later : {a : A} {below after : Forest A} → Occurs x after → Occurs x (row a below after)
  deeper : {a : A} {below after : Forest A} → Occurs x below → Occurs x (row a below after)

-- Definitions by their roles

abbrev pub operation_role : Role → Bool
operation_role anonymous_operation = true
operation_role named_operation = true
operation_role fragment = false
operation_role type_system = false

abbrev pub anonymous_role : Role → Bool
anonymous_role anonymous_operation = true
anonymous_role named_operation = false
anonymous_role fragment = false
anonymous_role type_system = false

abbrev pub named_role : Role → Bool
named_role anonymous_operation = false
named_role named_operation = true
named_role fragment = false
named_role type_system = false

abbrev pub fragment_role : Role → Bool
fragment_role anonymous_operation = false
fragment_role named_operation = false
fragment_role fragment = true
fragment_role type_system = false

abbrev pub is_operation : Accepted → Bool
is_operation d = operation_role (role_of d.head)

abbrev pub is_anonymous : Accepted → Bool
is_anonymous d = anonymous_role (role_of d.head)

abbrev pub is_named : Accepted → Bool
is_named d = named_role (role_of d.head)

abbrev pub is_fragment : Accepted → Bool
is_fragment d = fragment_role (role_of d.head)

abbrev pub is_executable : Accepted → Bool
is_executable d = is_operation d || is_fragment d

-- the operations, and the anonymous ones; the named operations and the fragments of a name
abbrev pub operations : List Accepted → List Accepted
operations ds = filter is_operation ds

abbrev pub anonymous_operations : List Accepted → List Accepted
anonymous_operations ds = filter is_anonymous ds

abbrev pub operations_named : ℕ → List Accepted → List Accepted
operations_named n ds = filter (λ d. is_named d && n == d.head.name) ds

abbrev pub fragments_named : ℕ → List Accepted → List Accepted
fragments_named n ds = filter (λ d. is_fragment d && n == d.head.name) ds

abbrev pub Operation : Accepted → Type 0
Operation d = is_operation d ≡ true

abbrev pub Named : Accepted → Type 0
Named d = is_named d ≡ true

abbrev pub Fragment : Accepted → Type 0
Fragment d = is_fragment d ≡ true

-- the type around the selections of a definition with this head: the root of its operation type, or its condition
pub data Around (m : Meaning) (h : Head) : ℕ → Type 0 where
  of_root : (t : ℕ) → operation_role (role_of h) ≡ true → m.root (operation_of h) ≡ Some t → Around m h t
  of_fragment : fragment_role (role_of h) ≡ true → Around m h h.condition

-- the selection s, with the selections `below` beneath it, stands in the type t somewhere beneath the definition d
pub record Selected (m : Meaning) (d : Accepted) (t : ℕ) (s : Selection) (below : Forest Selection) : Type 0 where
  pub outer : ℕ
  pub around : Around m d.head outer
  pub stands : Stands m outer d.selected t s below

-- a field of that name is defined on the type t
abbrev pub Defined : Meaning → ℕ → ℕ → Type 0
Defined m t name = (x : FieldDefinition) × (m.field t name ≡ Ok x)

-- the kind of a scalar or an enum
abbrev pub Leaf : Option TypeKind → Type 0
Leaf k = (k ≡ Some Scalar) ⊎ (k ≡ Some Enum)

-- The rules

-- Section 5.1.1, executable definitions: for each definition of a document that must be executable, which is one handed
-- in strict, it must be an operation or a fragment.
abbrev pub ExecutableDefinitions : List Accepted → Type 0
ExecutableDefinitions ds = AllByRecursion (λ d. d.strict ≡ true → Operation d ⊎ Fragment d) ds

-- Section 5.2.1.1, operation name uniqueness: for each operation, if its name exists, all operations of that name must be
-- a set of one.
abbrev pub OperationNameUniqueness : List Accepted → Type 0
OperationNameUniqueness ds = AllByRecursion (λ d. Named d → length (operations_named d.head.name ds) ≡ 1) ds

-- Section 5.2.2.1, lone anonymous operation: if all operations are a set of more than 1, the anonymous ones must be empty.
abbrev pub LoneAnonymousOperation : List Accepted → Type 0
LoneAnonymousOperation ds = 1 < length (operations ds) → anonymous_operations ds ≡ []

-- Section 5.3.1, field selections: for each field that is selected, its name must be defined on the type in scope.
abbrev pub FieldSelections : Meaning → List Accepted → Type 0
FieldSelections m ds =
    AllByRecursion (λ d. (t : ℕ) (s : Selection) (below : Forest Selection) → Selected m d t s below → form_of s ≡ field → Defined m t s.name) ds

-- Section 5.3.3, leaf field selections: for each field that is selected, if its type is a scalar or an enum, its
-- subselections must be empty.
abbrev pub LeafFieldSelections : Meaning → List Accepted → Type 0
LeafFieldSelections m ds =
    AllByRecursion
    (λ d.
    (t : ℕ) (s : Selection) (below : Forest Selection) → Selected m d t s below → form_of s ≡ field
    → (x : FieldDefinition) → m.field t s.name ≡ Ok x → Leaf (m.sort x.inner) → below ≡ none)
    ds

-- Section 5.5.1.1, fragment name uniqueness: for each fragment, all fragments of its name must be a set of one.
abbrev pub FragmentNameUniqueness : List Accepted → Type 0
FragmentNameUniqueness ds = AllByRecursion (λ d. Fragment d → length (fragments_named d.head.name ds) ≡ 1) ds

-- Section 5.5.1.2, fragment spread type existence: the type that a fragment, or an inline fragment, is on must be defined
-- in the schema.
abbrev pub FragmentTypeExistence : Meaning → List Accepted → Type 0
FragmentTypeExistence m ds =
    AllByRecursion
    (λ d.
    (Fragment d → m.known d.head.condition ≡ true)
    × (Operation d ⊎ Fragment d → (s : Selection) → Occurs s d.selected → form_of s ≡ inline → s.condition ≢ 0 → m.known s.condition ≡ true))
    ds

-- Section 3.3.1, root operation types: for each operation, the schema must have a root type for its operation type.
abbrev pub RootOperationType : Meaning → List Accepted → Type 0
RootOperationType m ds = AllByRecursion (λ d. Operation d → (t : ℕ) × (m.root (operation_of d.head) ≡ Some t)) ds

-- the definitions keep all eight
pub record Valid (m : Meaning) (ds : List Accepted) : Type 0 where
  pub executable_definitions : ExecutableDefinitions ds
  pub operation_name_uniqueness : OperationNameUniqueness ds
  pub lone_anonymous_operation : LoneAnonymousOperation ds
  pub field_selections : FieldSelections m ds
  pub leaf_field_selections : LeafFieldSelections m ds
  pub fragment_name_uniqueness : FragmentNameUniqueness ds
  pub fragment_type_existence : FragmentTypeExistence m ds
  pub root_operation_type : RootOperationType m ds

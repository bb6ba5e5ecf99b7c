-- The meta-fields of the GraphQL specification of October 2021: section 4.1, type name introspection (`__typename`, in every
-- object, interface and union), and section 4.2, schema introspection (`__schema` and `__type`, at the query root). Assumes nothing.
use Rattle.std.specs.Prelude.{◌≡◌, ℕ, Bool, true, false, cond, List, [], ◌∷◌, Some, None, Ok, Err, Option, Result, ◌==◌, ◌≢◌}
use Rattle.schema.specs.declared.answers.OperationType.TheVariants.{Query}
use Rattle.schema.specs.declared.answers.TypeKind.{TypeKind}
use Rattle.schema.specs.declared.answers.FieldDefinition.{FieldDefinition}
use Rattle.schema.specs.declared.answers.FieldLookupError.{FieldLookupError}
use Rattle.schema.specs.declared.answers.FieldLookupError.TheVariants.{NoSuchType, NoSuchField}
use Rattle.schema.specs.declared.meta.Stands.{Stands}
use Rattle.schema.specs.declared.meta.Stands.TheVariants.{InComposite, InQueryRoot}
use Rattle.schema.specs.declared.meta.MetaField.{MetaField}
use Rattle.schema.specs.Numbers.{composite}
use Rattle.schema.specs.Meaning.{Meaning}

-- The definition of a field: its place and its inner type.
abbrev pub defined : ℕ → ℕ → FieldDefinition
defined place inner = record { place = place; inner = inner }

-- A meta-field: its name, the place of its definition, its inner type, and where it stands.
abbrev pub row : ℕ → ℕ → ℕ → Stands → MetaField
row name place inner stands = record { name = name; definition = defined place inner; stands = stands }

-- `__typename` (4) of type String (7), section 4.1; `__schema` (5) of type __Schema (8) and `__type` (6) of type __Type (9), section 4.2.
abbrev pub meta_fields : List MetaField
meta_fields = row 4 4097 7 InComposite ∷ row 5 4098 8 InQueryRoot ∷ row 6 4099 9 InQueryRoot ∷ []

-- The first meta-field of this name.
abbrev pub row_of : ℕ → List MetaField → Option MetaField
row_of name [] = None
row_of name (m ∷ ms) = cond (m.name == name) (Some m) (row_of name ms)

-- Whether the name is the one that is there.
abbrev pub is_name : Option ℕ → ℕ → Bool
is_name None n = false
is_name (Some m) n = m == n

-- Whether a type of this kind, if it has one, is composite.
abbrev pub composite_kind : Option TypeKind → Bool
composite_kind None = false
composite_kind (Some kind) = composite kind

-- Whether a meta-field that stands so is found in a type of this kind that is the query root or is not.
abbrev pub may_stand : Option TypeKind → Bool → Stands → Bool
may_stand kind is-root InComposite = composite_kind kind
may_stand kind is-root InQueryRoot = is-root

-- The answer from a row of the table, if there is one, where it is found exactly in types that `may` admits.
abbrev pub found_by : (Stands → Bool) → Option MetaField → Result FieldDefinition FieldLookupError
found_by may None = Err NoSuchField
found_by may (Some m) = cond (may m.stands) (Ok m.definition) (Err NoSuchField)

-- The meta-field of this name in a type of this kind that is the query root or is not.
abbrev pub meta_field : Option TypeKind → Bool → ℕ → Result FieldDefinition FieldLookupError
meta_field kind is-root name = found_by (may_stand kind is-root) (row_of name meta_fields)

-- The schema's own answer first: the second answer counts only where a known type does not have the field.
abbrev pub over : Result FieldDefinition FieldLookupError → Result FieldDefinition FieldLookupError → Result FieldDefinition FieldLookupError
over (Ok definition) meta = Ok definition
over (Err NoSuchType) meta = Err NoSuchType
over (Err NoSuchField) meta = meta

-- What a schema with this meaning answers for a field once the meta-fields are added to it.
abbrev pub with_meta_fields : Meaning → ℕ → ℕ → Result FieldDefinition FieldLookupError
with_meta_fields m t f = over (m.field t f) (meta_field (m.sort t) (is_name (m.root Query) t) f)

-- Its meaning once the meta-fields are added to it: only what it answers for fields changes.
abbrev pub with_meta : Meaning → Meaning
with_meta m = record { root = m.root; known = m.known; sort = m.sort; field = with_meta_fields m }

-- The meta-fields are added to a schema with this meaning, so that its answers for fields become `added`.
pub record MetaFieldsAdded (m : Meaning) (added : ℕ → ℕ → Result FieldDefinition FieldLookupError) : Type 0 where
  -- What the schema itself finds, and that a type is unknown, stays.
  pub own : (t f : ℕ) → (m.field t f ≢ Err NoSuchField) → added t f ≡ m.field t f
  -- Names other than those of the three meta-fields are answered as before.
  pub other : (t f : ℕ) → (f ≢ 4) → (f ≢ 5) → (f ≢ 6) → added t f ≡ m.field t f
  -- Section 4.1: `__typename`, of type String, is added to every composite type, and to no other.
  pub typename : (t : ℕ) → m.field t 4 ≡ Err NoSuchField → composite_kind (m.sort t) ≡ true → added t 4 ≡ Ok (defined 4097 7)
  pub typename_only : (t : ℕ) → composite_kind (m.sort t) ≡ false → added t 4 ≡ m.field t 4
  -- Section 4.2: `__schema`, of type __Schema, and `__type`, of type __Type, are added to the query root ..
  pub schema : (t : ℕ) → m.field t 5 ≡ Err NoSuchField → m.root Query ≡ Some t → added t 5 ≡ Ok (defined 4098 8)
  pub type : (t : ℕ) → m.field t 6 ≡ Err NoSuchField → m.root Query ≡ Some t → added t 6 ≡ Ok (defined 4099 9)
  -- .. and to no other type.
  pub schema_only : (t : ℕ) → (m.root Query ≢ Some t) → added t 5 ≡ m.field t 5
  pub type_only : (t : ℕ) → (m.root Query ≢ Some t) → added t 6 ≡ m.field t 6

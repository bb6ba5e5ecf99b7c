-- The schema of the queries: type Query { meter: Meter unit: Unit } type Meter { id: ID } and the enum Unit, under the meta
-- layer; with the numbers of its names, and of the names that the queries use beside them.
use Rattle.std.specs.Prelude.{◌≡◌, ℕ, List, [], ◌∷◌, None}
use Rattle.schema.specs.declared.answers.TypeKind.{TypeKind}
use Rattle.schema.specs.declared.answers.TypeKind.TheVariants.{Scalar, Object, Enum}
use Rattle.schema.specs.Numbers.{kind_number}
use Rattle.schema.specs.Meaning.{Meaning, Closed}
use Rattle.schema.specs.Law.{Lawful}
use Rattle.table_schema.specs.declared.rows.TypeRow.{TypeRow}
use Rattle.table_schema.specs.declared.rows.FieldRow.{FieldRow}
use Rattle.table_schema.specs.declared.rows.RootTypes.{RootTypes}
use Rattle.table_schema.specs.Table.{schema_fault}
use Rattle.table_schema.specs.Original.{original_meaning}

-- the fixed names Query, String, __Schema and __Type
abbrev pub query_type : ℕ
query_type = 1

abbrev pub string_type : ℕ
string_type = 7

abbrev pub schema_type : ℕ
schema_type = 8

abbrev pub type_type : ℕ
type_type = 9

-- the names of the schema: meter and Meter, unit and Unit, id and ID
abbrev pub meter_field : ℕ
meter_field = 12

abbrev pub meter_type : ℕ
meter_type = 13

abbrev pub unit_field : ℕ
unit_field = 14

abbrev pub unit_type : ℕ
unit_type = 15

abbrev pub id_field : ℕ
id_field = 16

abbrev pub id_type : ℕ
id_type = 17

-- names that it does not know: F, gas, A and Gas
abbrev pub f_name : ℕ
f_name = 18

abbrev pub gas_field : ℕ
gas_field = 19

abbrev pub a_name : ℕ
a_name = 20

abbrev pub gas_type : ℕ
gas_type = 21

-- a type, and a field
abbrev pub type_row : ℕ → TypeKind → TypeRow
type_row name kind = record { name = name; kind = kind_number kind }

abbrev pub field_row : ℕ → ℕ → ℕ → FieldRow
field_row owner name inner = record { owner = owner; name = name; inner = inner }

abbrev pub types : List TypeRow
types =
    type_row query_type Object
    ∷ type_row meter_type Object
    ∷ type_row unit_type Enum
    ∷ type_row id_type Scalar
    ∷ type_row string_type Scalar
    ∷ type_row schema_type Object
    ∷ type_row type_type Object
    ∷ []

abbrev pub fields : List FieldRow
fields =
    field_row query_type meter_field meter_type
    ∷ field_row query_type unit_field unit_type
    ∷ field_row meter_type id_field id_type
    ∷ []

-- the places of their definitions
abbrev pub meter_place : ℕ
meter_place = 1

abbrev pub unit_place : ℕ
unit_place = 2

abbrev pub id_place : ℕ
id_place = 3

abbrev pub roots : RootTypes
roots = record { query = query_type; mutation = 0; subscription = 0 }

abbrev pub meters : Meaning
meters = original_meaning types fields roots

-- its rows are those of a schema, which keeps the law and knows each type that it answers with
pub record MetersAreASchema : Type 0 where
  pub rows : schema_fault types fields ≡ None
  pub lawful : Lawful meters
  pub closed : Closed meters

-- Eight queries to the meter schema, each with what it comes to.
use Rattle.std.specs.Prelude.{true, List, [], ◌∷◌, Some, None}
use Rattle.std.specs.List.{AllByRecursion}
use Rattle.schema.specs.declared.answers.OperationType.TheVariants as operation
use Rattle.selection_rules.specs.Errors.{ambiguous_anonymous_operation, undefined_root_operation, undefined_type_in_named_fragment, subselection_on_enum_type, undefined_field}
use Rattle.queries.specs.Meters.{query_type, meter_field, meter_type, unit_field, unit_type, id_field, id_type, f_name, gas_field, a_name, gas_type, meter_place, unit_place, id_place, meters}
use Rattle.queries.specs.Query.{Query, Stands, anonymous_query, named, fragment, field, spread, inline, stored_in, stored_field, stored_spread, stored_inline, from_query}

-- { ...F ...F } fragment F on Query { unit ...F }
-- a fragment that spreads itself: no error, and all is stored
abbrev pub spread_twice : Query
spread_twice =
    record {
      definitions = anonymous_query 1 0 2 ∷ fragment f_name query_type 15 24 29 2 4 ∷ [];
      rows = spread f_name 3 1 ∷ spread f_name 8 2 ∷ field unit_field 37 3 ∷ spread f_name 42 4 ∷ [];
      strict = true;
      errors = [];
      anonymous = Some (stored_in query_type (anonymous_query 1 0 2));
      operations = [];
      fragments = stored_in query_type (fragment f_name query_type 15 24 29 2 4) ∷ [];
      selections =
          stored_spread (spread f_name 3 1)
          ∷ stored_spread (spread f_name 8 2)
          ∷ stored_field unit_place unit_type (field unit_field 37 3)
          ∷ stored_spread (spread f_name 42 4)
          ∷ [];
      walks = (2 ∷ []) ∷ [];
    }

-- { unit { id } }
-- a selection on an enum: the query is stored without a selection
abbrev pub beneath_an_enum : Query
beneath_an_enum =
    record {
      definitions = anonymous_query 1 0 2 ∷ [];
      rows = field unit_field 3 2 ∷ field id_field 10 2 ∷ [];
      strict = true;
      errors = subselection_on_enum_type 3 unit_type (from_query (unit_field ∷ [])) ∷ [];
      anonymous = Some (stored_in query_type (anonymous_query 1 0 0));
      operations = [];
      fragments = [];
      selections = [];
      walks = [] ∷ [];
    }

-- { meter { gas id } }
-- a field that its type does not have: the others are stored
abbrev pub unknown_field : Query
unknown_field =
    record {
      definitions = anonymous_query 1 0 3 ∷ [];
      rows = field meter_field 3 3 ∷ field gas_field 11 2 ∷ field id_field 15 3 ∷ [];
      strict = true;
      errors = undefined_field 11 meter_type gas_field (from_query (meter_field ∷ gas_field ∷ [])) ∷ [];
      anonymous = Some (stored_in query_type (anonymous_query 1 0 2));
      operations = [];
      fragments = [];
      selections =
          stored_field meter_place meter_type (field meter_field 3 2)
          ∷ stored_field id_place id_type (field id_field 15 2)
          ∷ [];
      walks = (0 ∷ 1 ∷ []) ∷ [];
    }

-- { unit } { unit } { unit }
-- three anonymous operations: each is told of once, and the first is stored
abbrev pub anonymous_thrice : Query
anonymous_thrice =
    record {
      definitions = anonymous_query 1 0 1 ∷ anonymous_query 10 1 2 ∷ anonymous_query 19 2 3 ∷ [];
      rows = field unit_field 3 1 ∷ field unit_field 12 2 ∷ field unit_field 21 3 ∷ [];
      strict = true;
      errors = ambiguous_anonymous_operation 1 ∷ ambiguous_anonymous_operation 10 ∷ ambiguous_anonymous_operation 19 ∷ [];
      anonymous = Some (stored_in query_type (anonymous_query 1 0 1));
      operations = [];
      fragments = [];
      selections = stored_field unit_place unit_type (field unit_field 3 1) ∷ [];
      walks = (0 ∷ []) ∷ [];
    }

-- { meter { ... on Query { unit } } }
-- a condition that no meter meets: only that the type is known is asked, so all is stored
abbrev pub another_type : Query
another_type =
    record {
      definitions = anonymous_query 1 0 3 ∷ [];
      rows = field meter_field 3 3 ∷ inline query_type 11 18 3 ∷ field unit_field 26 3 ∷ [];
      strict = true;
      errors = [];
      anonymous = Some (stored_in query_type (anonymous_query 1 0 3));
      operations = [];
      fragments = [];
      selections =
          stored_field meter_place meter_type (field meter_field 3 3)
          ∷ stored_inline query_type (inline query_type 11 18 3)
          ∷ stored_field unit_place unit_type (field unit_field 26 3)
          ∷ [];
      walks = (0 ∷ 2 ∷ []) ∷ [];
    }

-- mutation A { id } query A { unit }
-- no root for mutations: the mutation is left out, and leaves its name to the query
abbrev pub no_root : Query
no_root =
    record {
      definitions = named operation.Mutation a_name 1 10 0 1 ∷ named operation.Query a_name 19 25 1 2 ∷ [];
      rows = field id_field 14 1 ∷ field unit_field 29 2 ∷ [];
      strict = true;
      errors = undefined_root_operation 1 operation.Mutation ∷ [];
      anonymous = None;
      operations = stored_in query_type (named operation.Query a_name 19 25 0 1) ∷ [];
      fragments = [];
      selections = stored_field unit_place unit_type (field unit_field 29 1) ∷ [];
      walks = (0 ∷ []) ∷ [];
    }

-- { unit } query A { unit }
-- an anonymous operation beside a named one: the anonymous one is told of, and both are stored
abbrev pub beside_a_named_one : Query
beside_a_named_one =
    record {
      definitions = anonymous_query 1 0 1 ∷ named operation.Query a_name 10 16 1 2 ∷ [];
      rows = field unit_field 3 1 ∷ field unit_field 20 2 ∷ [];
      strict = true;
      errors = ambiguous_anonymous_operation 1 ∷ [];
      anonymous = Some (stored_in query_type (anonymous_query 1 0 1));
      operations = stored_in query_type (named operation.Query a_name 10 16 1 2) ∷ [];
      fragments = [];
      selections =
          stored_field unit_place unit_type (field unit_field 3 1)
          ∷ stored_field unit_place unit_type (field unit_field 20 2)
          ∷ [];
      walks = (0 ∷ []) ∷ (1 ∷ []) ∷ [];
    }

-- fragment F on Gas { id } fragment F on Meter { id }
-- a fragment on a type that is not known: it is left out, and leaves its name to the next
abbrev pub unknown_condition : Query
unknown_condition =
    record {
      definitions = fragment f_name gas_type 1 10 15 0 1 ∷ fragment f_name meter_type 26 35 40 1 2 ∷ [];
      rows = field id_field 21 1 ∷ field id_field 48 2 ∷ [];
      strict = true;
      errors = undefined_type_in_named_fragment 15 gas_type f_name ∷ [];
      anonymous = None;
      operations = [];
      fragments = stored_in meter_type (fragment f_name meter_type 26 35 40 0 1) ∷ [];
      selections = stored_field id_place id_type (field id_field 48 1) ∷ [];
      walks = [];
    }

abbrev pub queries : List Query
queries =
    spread_twice
    ∷ beneath_an_enum
    ∷ unknown_field
    ∷ anonymous_thrice
    ∷ another_type
    ∷ no_root
    ∷ beside_a_named_one
    ∷ unknown_condition
    ∷ []

-- each query comes to what it tells
abbrev pub AllStand : Type 0
AllStand = AllByRecursion (Stands meters) queries

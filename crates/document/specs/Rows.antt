-- What rows hold besides their places, and the rules of their members.
use Rattle.std.specs.Prelude.{ℕ, List, [], ◌∷◌, Bool, true, cond, not, ◌&&◌, ◌||◌, ◌==◌, nat_le, nat_lt, refl}
use Rattle.layout.specs.declared.row.RowView.{RowView}
use Rattle.layout.specs.Shapes.{Shape, Rules, view_of}
use Rattle.document.specs.declared.rows.DefinitionRow.{DefinitionRow}
use Rattle.document.specs.declared.rows.SelectionRow.{SelectionRow}

-- a selection: its row without its end
pub record Selection : Type 0 where
  pub kind : ℕ
  pub name : ℕ
  pub alias : ℕ
  pub condition : ℕ
  pub arguments : ℕ
  pub directives : ℕ
  pub location : ℕ
  pub name_location : ℕ
  pub condition_location : ℕ

-- a definition's head: its row without the range of its selections
pub record Head : Type 0 where
  pub kind : ℕ
  pub operation_type : ℕ
  pub name : ℕ
  pub condition : ℕ
  pub variables : ℕ
  pub directives : ℕ
  pub location : ℕ
  pub name_location : ℕ
  pub condition_location : ℕ

-- kinds of selections
abbrev pub is_field : Selection → Bool
is_field s = s.kind == 1

abbrev pub is_spread : Selection → Bool
is_spread s = s.kind == 2

abbrev pub is_inline : Selection → Bool
is_inline s = s.kind == 3

abbrev pub is_set : ℕ → Bool
is_set n = not (n == 0)

-- fields and spreads need a name
abbrev pub selection_unnamed : Selection → Bool
selection_unnamed s = (is_field s || is_spread s) && s.name == 0

-- only fields use alias, arguments and name location; only inline fragments use condition and condition location, and
-- they have no name
abbrev pub selection_broken : Selection → Bool
selection_broken s =
    cond (is_field s) (is_set s.condition || is_set s.condition_location)
    (cond (is_spread s)
    (is_set s.alias || (is_set s.condition || (is_set s.arguments || (is_set s.name_location || is_set s.condition_location))))
    (cond (is_inline s)
    (is_set s.name || (is_set s.alias || (is_set s.arguments || is_set s.name_location)))
    true))

-- the rules of selections; nothing stands beneath a spread
abbrev pub selection_rules : Rules Selection
selection_rules = record { unnamed = selection_unnamed; broken = selection_broken; leaf = is_spread }

-- a selection as a row that ends at e
abbrev pub selection_row : Selection → ℕ → SelectionRow
selection_row s e =
    record {
      kind = s.kind;
      name = s.name;
      alias = s.alias;
      condition = s.condition;
      arguments = s.arguments;
      directives = s.directives;
      location = s.location;
      name_location = s.name_location;
      condition_location = s.condition_location;
      end = e;
    }

abbrev pub selection_of : SelectionRow → Selection
selection_of r =
    record {
      kind = r.kind;
      name = r.name;
      alias = r.alias;
      condition = r.condition;
      arguments = r.arguments;
      directives = r.directives;
      location = r.location;
      name_location = r.name_location;
      condition_location = r.condition_location;
    }

abbrev pub selections : Shape Selection SelectionRow
selections =
    record {
      close = selection_row;
      bare = selection_of;
      end = λ r. r.end;
      bare_close = λ a e. refl;
      end_close = λ a e. refl;
      close_bare = λ r. refl;
    }

-- a selection row's members in the order of the format
abbrev pub selection_numbers : SelectionRow → List ℕ
selection_numbers r =
    r.kind ∷ r.name ∷ r.alias ∷ r.condition ∷ r.arguments ∷ r.directives ∷ r.location ∷ r.name_location ∷ r.condition_location ∷ r.end ∷ []

-- what the layout sees of a selection row
abbrev pub selection_view : SelectionRow → RowView
selection_view = view_of selections selection_rules

-- a definition's head as a row whose selections stand from first up to end
abbrev pub definition_row : Head → ℕ → ℕ → DefinitionRow
definition_row h first end =
    record {
      kind = h.kind;
      operation_type = h.operation_type;
      name = h.name;
      condition = h.condition;
      variables = h.variables;
      directives = h.directives;
      location = h.location;
      name_location = h.name_location;
      condition_location = h.condition_location;
      first = first;
      end = end;
    }

abbrev pub head_of : DefinitionRow → Head
head_of r =
    record {
      kind = r.kind;
      operation_type = r.operation_type;
      name = r.name;
      condition = r.condition;
      variables = r.variables;
      directives = r.directives;
      location = r.location;
      name_location = r.name_location;
      condition_location = r.condition_location;
    }

-- a definition row's members in the order of the format
abbrev pub definition_numbers : DefinitionRow → List ℕ
definition_numbers r =
    r.kind ∷ r.operation_type ∷ r.name ∷ r.condition ∷ r.variables ∷ r.directives ∷ r.location ∷ r.name_location ∷ r.condition_location ∷ r.first ∷ r.end ∷ []

-- kinds of definitions: 1 operation, 2 fragment, 3 to 17 type system
abbrev pub is_operation : Head → Bool
is_operation h = h.kind == 1

abbrev pub named_operation : Head → Bool
named_operation h = is_operation h && is_set h.name

abbrev pub is_fragment : Head → Bool
is_fragment h = h.kind == 2

abbrev pub is_type_system : Head → Bool
is_type_system h = nat_le 3 h.kind && nat_le h.kind 17

-- fragments need a name and a condition
abbrev pub head_unnamed : Head → Bool
head_unnamed h = is_fragment h && (h.name == 0 || h.condition == 0)

-- operations have one of three types, no condition and no condition location; fragments have no operation type and no
-- variables; the type system uses only location and name
abbrev pub head_broken : Head → Bool
head_broken h =
    cond (is_operation h) (nat_lt 2 h.operation_type || (is_set h.condition || is_set h.condition_location))
    (cond (is_fragment h) (is_set h.operation_type || is_set h.variables)
    (cond (is_type_system h)
    (is_set h.operation_type || (is_set h.condition || (is_set h.variables || (is_set h.directives || (is_set h.name_location || is_set h.condition_location)))))
    true))

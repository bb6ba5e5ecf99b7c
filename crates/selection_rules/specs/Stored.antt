-- Stored selections: a selection with the place of its definition and the type of the set beneath it.
use Rattle.std.specs.Prelude.{ℕ, Bool, cond, ◌&&◌, ◌||◌, refl}
use Rattle.layout.specs.declared.row.RowView.{RowView}
use Rattle.layout.specs.Shapes.{Shape, Rules, view_of}
use Rattle.document.specs.Rows.{Selection, selection_of, selection_row, selection_unnamed, selection_broken, is_field, is_spread, is_inline, is_set}
use Rattle.selection_rules.specs.declared.stored.StoredRow.{StoredRow}

-- the forms of a selection: kind 1 is a field, 2 a spread, 3 an inline fragment
pub data Form : Type 0 where
  field : Form
  spread : Form
  inline : Form

abbrev pub form_of : Selection → Form
form_of s = cond (is_field s) field (cond (is_spread s) spread inline)

pub record Stored : Type 0 where
  pub selection : Selection
  pub place : ℕ
  pub set_type : ℕ

abbrev pub stored : Selection → ℕ → ℕ → Stored
stored s place set_type = record { selection = s; place = place; set_type = set_type }

-- the type of the set beneath a selection: a spread has no set of its own
abbrev pub set_type_of : Form → ℕ → ℕ
set_type_of field inner = inner
set_type_of spread inner = 0
set_type_of inline inner = inner

-- a selection with the place of its definition, where the type around what stands beneath it is `inner`
abbrev pub stored_in : Selection → ℕ → ℕ → Stored
stored_in s place inner = stored s place (set_type_of (form_of s) inner)

-- a stored selection as a row that ends at e
abbrev pub stored_row : Stored → ℕ → StoredRow
stored_row x e = record { selection = selection_row x.selection e; place = x.place; set_type = x.set_type }

-- what a stored row holds beside its end
abbrev pub stored_of : StoredRow → Stored
stored_of r = stored (selection_of r.selection) r.place r.set_type

abbrev pub stored_selections : Shape Stored StoredRow
stored_selections =
    record {
      close = stored_row;
      bare = stored_of;
      end = λ r. r.selection.end;
      bare_close = λ a e. refl;
      end_close = λ a e. refl;
      close_bare = λ r. refl;
    }

-- a spread has neither a place nor a set type, and an inline fragment has no place
abbrev pub answers_broken : Stored → Bool
answers_broken x = (is_spread x.selection && (is_set x.place || is_set x.set_type)) || (is_inline x.selection && is_set x.place)

-- the rules of stored selections: those of selections, and these
abbrev pub stored_rules : Rules Stored
stored_rules =
    record {
      unnamed = λ x. selection_unnamed x.selection;
      broken = λ x. selection_broken x.selection || answers_broken x;
      leaf = λ x. is_spread x.selection;
    }

-- what the layout sees of a stored row
abbrev pub stored_view : StoredRow → RowView
stored_view = view_of stored_selections stored_rules

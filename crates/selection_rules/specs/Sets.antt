-- The build of a set: which selections are stored, in which type, and which errors are listed, in order, with their paths.
use Rattle.std.specs.Prelude.{ℕ, Bool, true, false, cond, List, [], ◌∷◌, ◌++◌, ◌==◌}
use Rattle.layout.specs.Forest.{Forest, none, row}
use Rattle.document.specs.Rows.{Selection}
use Rattle.schema.specs.Meaning.{Meaning}
use Rattle.selection_rules.specs.declared.settling.SelectionFault.{SelectionFault}
use Rattle.selection_rules.specs.declared.settling.SelectionFault.TheVariants.{UnknownCondition, OnScalar, OnEnum, UnknownField}
use Rattle.selection_rules.specs.declared.settling.Settled.{Settled}
use Rattle.selection_rules.specs.declared.settling.Settled.TheVariants.{Kept, Dropped, Faulty}
use Rattle.selection_rules.specs.Stored.{Form, field, spread, inline, form_of, Stored, stored_in}
use Rattle.selection_rules.specs.Settle.{looked_up, conditioned}
use Rattle.selection_rules.specs.Errors.{Path, Error, undefined_type_in_inline_fragment, subselection_on_scalar_type, subselection_on_enum_type, undefined_field}

-- the key of a field in a response: its alias, else its name
abbrev pub response_key : Selection → ℕ
response_key s = cond (s.alias == 0) s.name s.alias

abbrev pub opened : Path → ℕ → Path
opened p key = record { root = p.root; keys = p.keys ++ key ∷ [] }

abbrev pub path_in : Form → Path → Selection → Path
path_in field p s = opened p (response_key s)
path_in spread p s = p
path_in inline p s = p

-- the path of a selection, and of what stands beneath it: a field opens its key
abbrev pub path_to : Path → Selection → Path
path_to p s = path_in (form_of s) p s

-- whether there are selections at all
abbrev pub some_row : {A : Type 0} → Forest A → Bool
some_row none = false
some_row (row a below after) = true

-- What becomes of a selection in the type around it, form by form: `Kept` tells the place of its definition, and the type
-- around what stands beneath it. Nothing stands beneath a spread of a document, so that type is the one around the spread.
abbrev pub settled_as : Form → Meaning → ℕ → Selection → Bool → Settled
settled_as field m around s beneath = looked_up m beneath (m.field around s.name)
settled_as spread m around s beneath = Kept 0 around
settled_as inline m around s beneath = conditioned m around s.condition

abbrev pub settled_in : Meaning → ℕ → Selection → Bool → Settled
settled_in m around s beneath = settled_as (form_of s) m around s beneath

-- the error of a selection with a fault, in the type around it
abbrev pub error_of : SelectionFault → Path → ℕ → Selection → Error
error_of UnknownCondition p around s = undefined_type_in_inline_fragment s.condition_location s.condition p
error_of (OnScalar type-name) p around s = subselection_on_scalar_type s.location type-name p
error_of (OnEnum type-name) p around s = subselection_on_enum_type s.location type-name p
error_of UnknownField p around s = undefined_field s.name_location around s.name p

-- what is listed of a selection and of what stands beneath it
abbrev pub listed : Settled → Path → ℕ → Selection → (ℕ → List Error) → List Error
listed (Kept place inner) p around s below = below inner
listed Dropped p around s below = []
listed (Faulty fault) p around s below = error_of fault p around s ∷ []

-- the errors of selections in the type around them, in their order
abbrev pub errors : Meaning → Path → ℕ → Forest Selection → List Error
errors m p around none = []
errors m p around (row s below after) =
    listed (settled_in m around s (some_row below)) (path_to p s) around s (λ inner. errors m (path_to p s) inner below)
    ++ errors m p around after

-- a selection that is kept stands before the ones after it; one that is left out takes what is beneath it along
abbrev pub keep : Settled → Selection → (ℕ → Forest Stored) → Forest Stored → Forest Stored
keep (Kept place inner) s below after = row (stored_in s place inner) (below inner) after
keep Dropped s below after = after
keep (Faulty fault) s below after = after

-- what is stored of selections in the type around them
abbrev pub build : Meaning → ℕ → Forest Selection → Forest Stored
build m around none = none
build m around (row s below after) =
    keep (settled_in m around s (some_row below)) s (λ inner. build m inner below) (build m around after)

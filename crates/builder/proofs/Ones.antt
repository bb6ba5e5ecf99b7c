-- One definition that is taken in: what is listed of it, and where it is kept.
use Rattle.std.proofs.Common.{◌≡◌, ℕ, ◌+◌, ◌≤◌, Bool, true, false, cond, List, [], ◌∷◌, ◌++◌, length, Some, None, Option, sym, refl, ap, ◌∙◌, arith}
use Rattle.std.proofs.lemmas.List.{append-nil}
use Rattle.layout.specs.Forest.{none, size, flatten}
use Rattle.schema.specs.Meaning.{Meaning}
use Rattle.selection_rules.specs.declared.error.BuildError.{BuildError}
use Rattle.selection_rules.specs.Stored.{stored_row}
use Rattle.selection_rules.specs.Errors.{Error, keys_in, error_rows}
use Rattle.selection_rules.specs.Sets.{build, errors}
use Rattle.building_rules.specs.Definitions.{Accepted, Kept, Role, anonymous_operation, named_operation, fragment, type_system, role_of, start_path, State, step}
use Rattle.building_rules.specs.Rules.{anonymous_role, named_role, fragment_role}
use Rattle.stored_tables.specs.declared.definition.StoredDefinition.{StoredDefinition}
use Rattle.stored_tables.specs.Layout.{stored_definition, latest}
use Rattle.builder.specs.Filling.{put, Output, output, filled_to, with_set}
use Rattle.builder.specs.Holding.{all_entered, Held, state_of, filled_with, one_in}
use Rattle.builder.specs.Ruling.{own_errors, set_type_for, set_type_as, now_multiple}
use Rattle.builder.specs.Storing.{store_as}
use Rattle.builder.proofs.Puts.{put_nil}
use Rattle.builder.proofs.Outputs.{same_output, length_rows, errors_then}
use Rattle.builder.proofs.Steps.{set_errors, kept_as, parts, pathless}
use Rattle.builder.proofs.Kepts.{same_held}

-- what is held, with another output and another flag
abbrev pub held_with : Held → Output → Bool → Held
held_with h o multiple = record { operations = h.operations; fragments = h.fragments; output = o; anonymous = h.anonymous; multiple = multiple }

module _ (m : Meaning) (h : Held) (d : Accepted) where
  abbrev pub s : State
  s = state_of h

  abbrev pub own : List Error
  own = own_errors m s d.head d.strict

  abbrev pub multiple : Bool
  multiple = now_multiple (role_of d.head) s.anonymous s.multiple

  -- the errors of the definition itself, as they are listed
  own_listed : put h.output.errors h.output.filled.errors (error_rows 0 own) ≡ put h.output.errors h.output.filled.errors (error_rows h.output.filled.path_keys own)
  own_listed = ap (put h.output.errors h.output.filled.errors) (sym ((pathless m s d.head d.strict).rows h.output.filled.path_keys))

  -- the tables with them
  pub own_output : (told es : List BuildError) (n : ℕ) → told ≡ error_rows 0 own → es ≡ put h.output.errors h.output.filled.errors told → n ≡ h.output.filled.errors + length told
      → output h.output.rows es h.output.path_keys (filled_to h.output.filled.rows n h.output.filled.path_keys) ≡ with_set h.output none own
  own_output told es n tells is count =
      let pathless-own = pathless m s d.head d.strict in
      let many = length_rows 0 own in
      same_output (sym (put_nil h.output.rows h.output.filled.rows)) (is ∙ ap (put h.output.errors h.output.filled.errors) tells ∙ own_listed)
      (sym (put_nil h.output.path_keys h.output.filled.path_keys) ∙ ap (put h.output.path_keys h.output.filled.path_keys) (sym pathless-own.keys))
      (omega arith) (omega (arith, ap length tells)) (omega (arith, ap length pathless-own.keys))

  step_so : (t : Option ℕ) → set_type_for m s d.head ≡ t → one_in m h d ≡ filled_with h (kept_as m d t) (own ++ set_errors m d t) multiple
  step_so t is =
      let p = parts m s d in
      ap (λ (ks : List Kept). filled_with h ks (step m s d).errors (step m s d).next.multiple) (p.kept ∙ ap (kept_as m d) is)
      ∙ ap (λ (l : List Error). filled_with h (kept_as m d t) l (step m s d).next.multiple) (p.errors ∙ ap (λ (x : Option ℕ). own ++ set_errors m d x) is)
      ∙ ap (λ (b : Bool). filled_with h (kept_as m d t) (own ++ set_errors m d t) b) p.multiple

  -- a definition that is left out
  pub left_out : set_type_for m s d.head ≡ None → held_with h (with_set h.output none own) multiple ≡ one_in m h d
  left_out out =
      same_held refl refl (same_output refl (ap (λ (l : List Error). put h.output.errors h.output.filled.errors (error_rows h.output.filled.path_keys l)) (sym (append-nil own)))
      (ap (λ (l : List Error). put h.output.path_keys h.output.filled.path_keys (keys_in l)) (sym (append-nil own)))
      refl (ap (λ (l : List Error). h.output.filled.errors + length l) (sym (append-nil own))) (ap (λ (l : List Error). h.output.filled.path_keys + length (keys_in l)) (sym (append-nil own)))) refl refl
      ∙ sym (step_so None out)

  module _ (t : ℕ) where
    abbrev pub kept : Kept
    kept = record { head = d.head; set_type = t; rows = build m t d.selected }

    abbrev pub place : StoredDefinition
    place = stored_definition d.head h.output.filled.rows (h.output.filled.rows + size (build m t d.selected)) t

    abbrev pub all : List Error
    all = own ++ errors m (start_path d.head) t d.selected

    -- where a role puts it
    abbrev pub put_as : Role → Held
    put_as role =
        record {
          operations = all_entered h.operations (cond (named_role role) (place ∷ []) []);
          fragments = all_entered h.fragments (cond (fragment_role role) (place ∷ []) []);
          output = with_set h.output (build m t d.selected) all;
          anonymous = cond (anonymous_role role) (Some place) h.anonymous;
          multiple = multiple;
        }

    -- errors of its own, and then its selections
    pub set_output : h.output.filled.errors + 2 ≤ length h.output.errors → h.output.filled.path_keys ≤ length h.output.path_keys
        → with_set (with_set h.output none own) (build m t d.selected) (errors m (start_path d.head) t d.selected) ≡ with_set h.output (build m t d.selected) all
    set_output errors_fit keys_fit =
        let pathless-own = pathless m s d.head d.strict in
        errors_then h.output own (build m t d.selected) (errors m (start_path d.head) t d.selected) (omega (arith, pathless-own.few)) (omega (arith, ap length pathless-own.keys))

    stored_so : (role : Role) → set_type_as role m s d.head ≡ Some t → store_as role (held_with h (with_set h.output (build m t d.selected) all) multiple) place ≡ put_as role
    stored_so anonymous_operation is = refl
    stored_so named_operation is = refl
    stored_so fragment is = refl
    stored_so type_system is = refl

    latest_one : (b : Bool) → cond b (Some place) h.anonymous ≡ latest h.anonymous (cond b (place ∷ []) [])
    latest_one true = refl
    latest_one false = refl

    one_put : put_as (role_of d.head) ≡ filled_with h (kept ∷ []) all multiple
    one_put =
        same_held refl refl
        (same_output (ap (put h.output.rows h.output.filled.rows) (sym (append-nil (flatten stored_row h.output.filled.rows (build m t d.selected))))) refl refl (omega arith) refl refl)
        (latest_one (anonymous_role (role_of d.head))) refl

    -- a definition that is stored
    pub stored_in_place : set_type_for m s d.head ≡ Some t → store_as (role_of d.head) (held_with h (with_set h.output (build m t d.selected) all) multiple) place ≡ one_in m h d
    stored_in_place is = stored_so (role_of d.head) is ∙ one_put ∙ sym (step_so (Some t) is)

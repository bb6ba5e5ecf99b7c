-- What is ruled of a definition is what the rules of building say of it.
use Rattle.std.proofs.Common.{◌≡◌, ℕ, zero, suc, Bool, true, false, cond, eqb, List, [], ◌∷◌, ◌++◌, Some, None, Option, sym, refl, ap, ◌∙◌}
use Rattle.document.specs.Rows.{Head}
use Rattle.schema.specs.Meaning.{Meaning}
use Rattle.selection_rules.specs.declared.error.BuildError.TheVariants.{AmbiguousAnonymousOperation}
use Rattle.selection_rules.specs.Errors.{error_rows}
use Rattle.building_rules.specs.Definitions.{Role, anonymous_operation, named_operation, role_of, operation_of, Taken, taken_at, State, beside}
use Rattle.stored_tables.specs.declared.definition.StoredDefinition.{StoredDefinition}
use Rattle.builder.specs.declared.ruling.Ruling.{Ruling}
use Rattle.builder.specs.Holding.{taken_by}
use Rattle.builder.proofs.Roles.{operation_role}
use Rattle.builder.specs.Ruling.{operations_stored, arriving_name, root_errors, anonymous_errors, name_errors, own_errors_as, named_root, set_type_as, now_multiple, root_ruling, operation_ruling, maybe, told, Ruled}

-- a ruling says what the rules say of a definition of this role
record Says (m : Meaning) (s : State) (h : Head) (strict : Bool) (role : Role) (r : Ruling) : Type 0 where
  errors : told r ≡ error_rows 0 (own_errors_as role m s h strict)
  stored : r.set_type ≡ set_type_as role m s h
  multiple : r.multiple_anonymous ≡ now_multiple role s.anonymous s.multiple

says_so : (m : Meaning) (s : State) (h : Head) (strict : Bool) (role : Role) (r : Ruling) → role_of h ≡ role → Says m s h strict role r → Ruled m s h strict r
says_so m s h strict role r is says =
    record {
      errors = says.errors ∙ ap (λ (x : Role). error_rows 0 (own_errors_as x m s h strict)) (sym is);
      stored = says.stored ∙ ap (λ (x : Role). set_type_as x m s h) (sym is);
      multiple = says.multiple ∙ ap (λ (x : Role). now_multiple x s.anonymous s.multiple) (sym is);
    }

module _ (m : Meaning) (multiple : Bool) (h : Head) where
  rooted : (root : Option ℕ) → told (root_ruling None multiple root h) ≡ error_rows 0 (root_errors root h)
  rooted None = refl
  rooted (Some t) = refl

  rooted_behind : (at : ℕ) (root : Option ℕ) → told (root_ruling (Some (AmbiguousAnonymousOperation at)) multiple root h) ≡ error_rows 0 (beside (Some at) ++ root_errors root h)
  rooted_behind at None = refl
  rooted_behind at (Some t) = refl

  further : (at : ℕ) (b : Bool) → maybe (cond b None (Some (AmbiguousAnonymousOperation at))) (AmbiguousAnonymousOperation h.location ∷ [])
      ≡ error_rows 0 (anonymous_errors m (Some at) b [] h)
  further at true = refl
  further at false = refl

  named_told : (a taken : Option ℕ) (count : ℕ) → told (operation_ruling m multiple taken h (operations_stored a count) (Some h.name)) ≡ error_rows 0 (beside a ++ name_errors m taken h)
  named_told None None zero = rooted (m.root (operation_of h))
  named_told None None (suc n) = rooted (m.root (operation_of h))
  named_told None (Some at) zero = refl
  named_told None (Some at) (suc n) = refl
  named_told (Some a) None zero = rooted_behind a (m.root (operation_of h))
  named_told (Some a) None (suc n) = rooted_behind a (m.root (operation_of h))
  named_told (Some a) (Some at) zero = refl
  named_told (Some a) (Some at) (suc n) = refl

  named_stored : (a taken : Option ℕ) (count : ℕ) → (operation_ruling m multiple taken h (operations_stored a count) (Some h.name)).set_type ≡ named_root m taken h
  named_stored None None zero = refl
  named_stored None None (suc n) = refl
  named_stored None (Some at) zero = refl
  named_stored None (Some at) (suc n) = refl
  named_stored (Some a) None zero = refl
  named_stored (Some a) None (suc n) = refl
  named_stored (Some a) (Some at) zero = refl
  named_stored (Some a) (Some at) (suc n) = refl

  named_multiple : (a taken : Option ℕ) (count : ℕ) → (operation_ruling m multiple taken h (operations_stored a count) (Some h.name)).multiple_anonymous ≡ multiple
  named_multiple None None zero = refl
  named_multiple None None (suc n) = refl
  named_multiple None (Some at) zero = refl
  named_multiple None (Some at) (suc n) = refl
  named_multiple (Some a) None zero = refl
  named_multiple (Some a) None (suc n) = refl
  named_multiple (Some a) (Some at) zero = refl
  named_multiple (Some a) (Some at) (suc n) = refl

  module _ (entries : List StoredDefinition) (fragments : List Taken) (strict : Bool) where
    abbrev before : Option ℕ → ℕ → State
    before a count = record { anonymous = a; multiple = multiple; operations = taken_by entries count; fragments = fragments }

    anonymous_says : (a taken : Option ℕ) (count : ℕ) → Says m (before a count) h strict anonymous_operation (operation_ruling m multiple taken h (operations_stored a count) None)
    anonymous_says None taken zero = record { errors = rooted (m.root (operation_of h)); stored = refl; multiple = refl }
    anonymous_says None taken (suc n) = record { errors = refl; stored = refl; multiple = refl }
    anonymous_says (Some at) taken zero = record { errors = further at multiple; stored = refl; multiple = refl }
    anonymous_says (Some at) taken (suc n) = record { errors = further at multiple; stored = refl; multiple = refl }

    operation_says : (b : Bool) (a : Option ℕ) (count : ℕ)
        → Says m (before a count) h strict (cond b anonymous_operation named_operation) (operation_ruling m multiple (taken_at h.name (taken_by entries count)) h (operations_stored a count) (cond b None (Some h.name)))
    operation_says true a count = anonymous_says a (taken_at h.name (taken_by entries count)) count
    operation_says false a count =
        let taken = taken_at h.name (taken_by entries count) in
        record { errors = named_told a taken count; stored = named_stored a taken count; multiple = named_multiple a taken count }

    pub operation_ruled : (a : Option ℕ) (count : ℕ) → h.kind ≡ 1
        → Ruled m (before a count) h strict (operation_ruling m multiple (taken_at h.name (taken_by entries count)) h (operations_stored a count) (arriving_name h))
    operation_ruled a count kind =
        says_so m (before a count) h strict (cond (eqb h.name 0) anonymous_operation named_operation) _ (operation_role h kind) (operation_says (eqb h.name 0) a count)

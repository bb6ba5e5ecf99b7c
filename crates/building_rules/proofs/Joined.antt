-- No error is listed exactly when the definitions are valid.
use Rattle.std.proofs.Common.{◌≡◌, ℕ, Bool, true, false, ◌≢◌, ◌⊎◌, List, [], ◌∷◌, Some, Ok, refl, ap, subst, inl, inr, ⊎_elim}
use Rattle.std.proofs.lemmas.Bool.{both_ways, false≢true}
use Rattle.std.proofs.ByRecursion.{All-weaker}
use Rattle.std.specs.List.{AllByRecursion}
use Rattle.layout.specs.Forest.{Forest, none}
use Rattle.document.specs.Rows.{Selection}
use Rattle.schema.specs.declared.answers.FieldDefinition.{FieldDefinition}
use Rattle.schema.specs.Meaning.{Meaning, Closed}
use Rattle.schema.specs.Law.{Lawful}
use Rattle.selection_rules.specs.Stored.{field, inline, form_of}
use Rattle.selection_rules.specs.Sets.{errors}
use Rattle.building_rules.specs.Definitions.{Accepted, Role, anonymous_operation, named_operation, fragment, type_system, role_of, operation_of, start_path, fresh}
use Rattle.building_rules.specs.Rules.{operation_role, fragment_role, is_operation, is_named, is_fragment, Around, of_root, of_fragment, Selected, Occurs, Leaf, Operation, Fragment, Defined, ExecutableDefinitions, FieldSelections, LeafFieldSelections, FragmentTypeExistence, RootOperationType}
use Rattle.building_rules.specs.Statement.{NoErrorsExactlyWhenValid}
use Rattle.building_rules.proofs.Rows.{Good, stands_good, occurs_conditioned, no_faults}
use Rattle.building_rules.proofs.Names.{new_alone, alone_new, lone_rule, rule_lone}
use Rattle.building_rules.proofs.Definitions.{Rooted, Local, runs, no_errors}

-- what the rules say of one definition
record Sound (m : Meaning) (d : Accepted) : Type 0 where
  executable : d.strict ≡ true → Operation d ⊎ Fragment d
  fields : (t : ℕ) (a : Selection) (below : Forest Selection) → Selected m d t a below → form_of a ≡ field → Defined m t a.name
  leaves : (t : ℕ) (a : Selection) (below : Forest Selection) → Selected m d t a below → form_of a ≡ field → (x : FieldDefinition) → m.field t a.name ≡ Ok x → Leaf (m.sort x.inner) → below ≡ none
  condition : is_fragment d ≡ true → m.known d.head.condition ≡ true
  conditions : Operation d ⊎ Fragment d → (a : Selection) → Occurs a d.selected → form_of a ≡ inline → a.condition ≢ 0 → m.known a.condition ≡ true
  root : is_operation d ≡ true → (t : ℕ) × (m.root (operation_of d.head) ≡ Some t)

module _ (m : Meaning) (d : Accepted) where
  executable_of : (w : Role) → Local m d w → d.strict ≡ true → (operation_role w ≡ true) ⊎ (fragment_role w ≡ true)
  executable_of anonymous_operation l e = inl refl
  executable_of named_operation l e = inl refl
  executable_of fragment l e = inr refl
  executable_of type_system l e = absurd (both_ways d.strict l e)

  rooted_of : (w : Role) → Local m d w → operation_role w ≡ true → Rooted m d
  rooted_of anonymous_operation l e = l
  rooted_of named_operation l e = l
  rooted_of fragment l e = absurd (false≢true e)
  rooted_of type_system l e = absurd (false≢true e)

  fragment_of : (w : Role) → Local m d w → fragment_role w ≡ true → (m.known d.head.condition ≡ true) × (errors m (start_path d.head) d.head.condition d.selected ≡ [])
  fragment_of anonymous_operation l e = absurd (false≢true e)
  fragment_of named_operation l e = absurd (false≢true e)
  fragment_of fragment l e = l
  fragment_of type_system l e = absurd (false≢true e)

  module _ (law : Lawful m) (closed : Closed m) (l : Local m d (role_of d.head)) where
    around_fine : (t : ℕ) → Around m d.head t → (m.known t ≡ true) × (errors m (start_path d.head) t d.selected ≡ [])
    around_fine t (of_root v o e) =
        let r = rooted_of (role_of d.head) l o in
        let root = r.root in
        let same : r.type ≡ v = cc in
        (closed.roots (operation_of d.head) v e, subst (λ (u : ℕ). errors m (start_path d.head) u d.selected ≡ []) same r.clean)
    around_fine t (of_fragment f) = fragment_of (role_of d.head) l f

    selected_good : (t : ℕ) (a : Selection) (below : Forest Selection) → Selected m d t a below → Good m t a below
    selected_good t a below s =
        let r = around_fine s.outer s.around in
        stands_good m law closed (start_path d.head) s.stands r.0 r.1

    some_around : Operation d ⊎ Fragment d → (t : ℕ) × Around m d.head t
    some_around (inl o) = let r = rooted_of (role_of d.head) l o in (r.type, of_root r.type o r.root)
    some_around (inr f) = (d.head.condition, of_fragment f)

    sound : Sound m d
    sound =
        record {
          executable = executable_of (role_of d.head) l;
          fields = λ t a below s. (selected_good t a below s).found;
          leaves = λ t a below s. (selected_good t a below s).leaf;
          condition = λ f. (fragment_of (role_of d.head) l f).0;
          conditions = λ w a i.
              let o = some_around w in
              let r = around_fine o.0 o.1 in
              occurs_conditioned m law closed (start_path d.head) o.0 i r.0 r.1;
          root = λ o. let r = rooted_of (role_of d.head) l o in (r.type, r.root);
        }

  module _ (s : Sound m d) where
    clean : (t : ℕ) → Operation d ⊎ Fragment d → Around m d.head t → errors m (start_path d.head) t d.selected ≡ []
    clean t o r =
        no_faults m (start_path d.head) t d.selected
        (λ u a below w.
        let at : Selected m d u a below = record { outer = t; around = r; stands = w } in
        record { found = s.fields u a below at; leaf = s.leaves u a below at })
        (s.conditions o)

    rooted : is_operation d ≡ true → Rooted m d
    rooted o = let r = s.root o in record { type = r.0; root = r.1; clean = clean r.0 (inl o) (of_root r.0 o r.1) }

    system : (b : Bool) → d.strict ≡ b → role_of d.head ≡ type_system → b ≡ false
    system false e w = refl
    system true e w =
        ⊎_elim (λ o. absurd (both_ways (is_operation d) (ap operation_role w) o)) (λ f. absurd (both_ways (is_fragment d) (ap fragment_role w) f)) (s.executable e)

    local : (w : Role) → role_of d.head ≡ w → Local m d w
    local anonymous_operation e = rooted (ap operation_role e)
    local named_operation e = rooted (ap operation_role e)
    local fragment e = let f : is_fragment d ≡ true = ap fragment_role e in (s.condition f, clean d.head.condition (inr f) (of_fragment f))
    local type_system e = system d.strict refl e

gather : (m : Meaning) (ds : List Accepted) → ExecutableDefinitions ds → FieldSelections m ds → LeafFieldSelections m ds → FragmentTypeExistence m ds → RootOperationType m ds → AllByRecursion (λ d. Local m d (role_of d.head)) ds
gather m [] a b c e f = tt
gather m (d ∷ ds) a b c e f = (
  local m d (record { executable = a.0; fields = b.0; leaves = c.0; condition = e.0.0; conditions = e.0.1; root = f.0 }) (role_of d.head) refl,
  gather m ds a.1 b.1 c.1 e.1 f.1,
)

pub no_errors_exactly_when_valid : NoErrorsExactlyWhenValid
no_errors_exactly_when_valid m law closed ds = (
  λ e.
      let r = runs m fresh ds e in
      let all : AllByRecursion (Sound m) ds = All-weaker (λ d. Local m d (role_of d.head)) (Sound m) (λ d. sound m d law closed) ds r.local in
      record {
        executable_definitions = All-weaker (Sound m) _ (λ d s. s.executable) ds all;
        operation_name_uniqueness = new_alone is_named ds r.operation;
        lone_anonymous_operation = lone_rule ds r.lone;
        field_selections = All-weaker (Sound m) _ (λ d s. s.fields) ds all;
        leaf_field_selections = All-weaker (Sound m) _ (λ d s. s.leaves) ds all;
        fragment_name_uniqueness = new_alone is_fragment ds r.fragment;
        fragment_type_existence = All-weaker (Sound m) _ (λ d s. (s.condition, s.conditions)) ds all;
        root_operation_type = All-weaker (Sound m) _ (λ d s. s.root) ds all;
      },
  λ v.
      no_errors m fresh ds
      (record {
        local = gather m ds v.executable_definitions v.field_selections v.leaf_field_selections v.fragment_type_existence v.root_operation_type;
        operation = alone_new is_named ds v.operation_name_uniqueness;
        fragment = alone_new is_fragment ds v.fragment_name_uniqueness;
        lone = rule_lone ds v.lone_anonymous_operation;
      }),
)

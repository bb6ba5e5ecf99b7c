-- When two kept definitions are the same: all members that were handed in agree, but locations and ranges, and so do the kept
-- rows beneath them.
use Rattle.std.specs.Prelude.{◌≡◌, List, Contains}
use Rattle.layout.specs.Forest.{Forest, none, row}
use Rattle.document.specs.Rows.{Selection, Head}
use Rattle.building_rules.specs.Definitions.{Kept}

-- two forests of as many rows, of which each and its counterpart are related, and so are the rows beneath them
abbrev pub Alike : {A : Type 0} → (A → A → Type 0) → Forest A → Forest A → Type 0
Alike R none none = Unit {0}
Alike R none (row b under beyond) = ⊥
Alike R (row a below after) none = ⊥
Alike R (row a below after) (row b under beyond) = R a b × Alike R below under × Alike R after beyond

pub record SameSelection (s t : Selection) : Type 0 where
  pub kind : s.kind ≡ t.kind
  pub name : s.name ≡ t.name
  pub alias : s.alias ≡ t.alias
  pub condition : s.condition ≡ t.condition
  pub arguments : s.arguments ≡ t.arguments
  pub directives : s.directives ≡ t.directives

pub record SameHead (h k : Head) : Type 0 where
  pub kind : h.kind ≡ k.kind
  pub operation_type : h.operation_type ≡ k.operation_type
  pub name : h.name ≡ k.name
  pub condition : h.condition ≡ k.condition
  pub variables : h.variables ≡ k.variables
  pub directives : h.directives ≡ k.directives

-- two kept definitions are the same
pub record Same (k j : Kept) : Type 0 where
  pub heads : SameHead k.head j.head
  pub rows : Alike (λ x y. SameSelection x.selection y.selection) k.rows j.rows

-- each definition that is kept by either is the same as one that is kept by the other
pub record EachIsSame (ks js : List Kept) : Type 0 where
  pub one : (k : Kept) → Contains ks k → (j : Kept) × Contains js j × Same k j
  pub other : (j : Kept) → Contains js j → (k : Kept) × Contains ks k × Same k j

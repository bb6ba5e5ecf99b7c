-- What the walk of an operation over all that it reaches comes to.
use Rattle.std.specs.Prelude.{◌≡◌, ◌⊎◌, ℕ, ◌<◌, List, [], ◌∷◌}
use Rattle.stored_tables.specs.declared.definition.StoredDefinition.{StoredDefinition}
use Rattle.stored_tables.specs.declared.stored.StoredDocument.{StoredDocument}
use Rattle.walking.specs.declared.turn.Scope.TheVariants.{Deep}
use Rattle.finished_rules.specs.ReachesInTables.{Beneath, Field, Chain, last_of, Reaches}
use Rattle.walking.specs.Walk.{Listing}

-- a place is one of the list
abbrev pub Among : ℕ → List ℕ → Type 0
Among p [] = ⊥
Among p (x ∷ xs) = (p ≡ x) ⊎ Among p xs

-- no place stands twice
abbrev pub Distinct : List ℕ → Type 0
Distinct [] = Unit {0}
Distinct (x ∷ xs) = (Among x xs → ⊥) × Distinct xs

-- p stands before q
abbrev pub Before : ℕ → ℕ → List ℕ → Type 0
Before p q [] = ⊥
Before p q (x ∷ xs) = ((p ≡ x) × Among q xs) ⊎ Before p q xs

-- two fields beneath one definition that is reached stand in the order of their places: so a field stands before those
-- beneath it
abbrev pub Ordered : StoredDocument → StoredDefinition → List ℕ → Type 0
Ordered d s places =
    (chain : List ℕ) → Chain d s chain → (p q : ℕ) → p < q → Beneath (last_of d s chain) p → Beneath (last_of d s chain) q → Field d p → Field d q → Before p q places

-- the places are those of the fields that the operation reaches, each once, as the one walk of it lists them
pub record Lists (d : StoredDocument) (s : StoredDefinition) (places : List ℕ) : Type 0 where
  pub listing : Listing d Deep s places
  pub only : (others : List ℕ) → Listing d Deep s others → others ≡ places
  pub sound : (p : ℕ) → Among p places → Reaches d s p
  pub whole : (p : ℕ) → Reaches d s p → Among p places
  pub once : Distinct places
  pub ordered : Ordered d s places

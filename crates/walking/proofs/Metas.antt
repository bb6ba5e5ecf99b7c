-- What meeting meta-fields only comes to.
use Rattle.std.proofs.Common.{ℕ, ◌⊎◌, inl, inr, List, [], ◌∷◌, ◌++◌, sym, refl, subst}
use Rattle.stored_tables.specs.declared.definition.StoredDefinition.{StoredDefinition}
use Rattle.stored_tables.specs.declared.stored.StoredDocument.{StoredDocument}
use Rattle.walking.specs.declared.turn.Scope.TheVariants.{Flat}
use Rattle.walking.specs.Tables.{InShape}
use Rattle.walking.specs.Walk.{Listing}
use Rattle.walking.specs.Listed.{Among}
use Rattle.walking.specs.Introspection.{Meta}
use Rattle.walking.specs.Turning.{Going}
use Rattle.walking.proofs.Places.{among_left, among_right, among_either}
use Rattle.walking.proofs.Orders.{alike}
use Rattle.walking.proofs.Under.{Under, whole_listing}

module _ (d : StoredDocument) (s : StoredDefinition) (shape : InShape d) where
  -- a field that is come upon is one of all
  pub met : (g : Going) (out : List ℕ) (p : ℕ) → Under d Flat s g (out ++ p ∷ []) → (places : List ℕ) → Listing d Flat s places → Among p places
  met g out p under places listing =
      let all = whole_listing d Flat s shape g (out ++ p ∷ []) under in
      let among = among_left p (out ++ p ∷ []) all.0 (among_right p out (p ∷ []) (inl refl)) in
      subst (Among p) (alike d shape Flat all.1.walk listing.walk).0 among

  -- where the walk is over, there are no other fields
  pub only_met : (out : List ℕ) → Listing d Flat s out → ((p : ℕ) → Among p out → Meta d p) → (places : List ℕ) → Listing d Flat s places → (p : ℕ) → Among p places → Meta d p
  only_met out own each places listing p among = each p (subst (Among p) (alike d shape Flat listing.walk own.walk).0 among)

one_more_meta : (d : StoredDocument) (out : List ℕ) (p : ℕ) → ((q : ℕ) → Among q out → Meta d q) → Meta d p → (q : ℕ) → Among q out ⊎ Among q (p ∷ []) → Meta d q
one_more_meta d out p each here q (inl before) = each q before
one_more_meta d out p each here q (inr (inl is)) = subst (Meta d) (sym is) here
one_more_meta d out p each here q (inr (inr none)) = absurd none

-- one more meta-field is met
pub one_more : (d : StoredDocument) (out : List ℕ) (p : ℕ) → ((q : ℕ) → Among q out → Meta d q) → Meta d p → (q : ℕ) → Among q (out ++ p ∷ []) → Meta d q
one_more d out p each here q among = one_more_meta d out p each here q (among_either q out (p ∷ []) among)

-- The elements of lists that are mapped and filtered.
use Rattle.std.proofs.Common.{◌≡◌, zero, suc, Bool, true, false, cond, ◌⊎◌, inl, inr, List, [], ◌∷◌, map, filter, refl, ap, sym, ◌∙◌, subst, ⊎_elim, arith}
use Rattle.std.specs.List.{AllByRecursion, Contains}
use Rattle.std.proofs.lemmas.List.Elements.{All-contains, All-from_recursion, Contains-append_right}

module _ {X : Type 0} where
  pub here : (x : X) (xs : List X) → Contains (x ∷ xs) x
  here x xs = (0, omega arith, refl)

  pub later : (y x : X) (xs : List X) → Contains xs x → Contains (y ∷ xs) x
  later y x xs at = Contains-append_right (y ∷ []) xs x at

  pub here_or_later : (y x : X) (xs : List X) → Contains (y ∷ xs) x → (y ≡ x) ⊎ Contains xs x
  here_or_later y x xs (zero, low, at) = inl at
  here_or_later y x xs (suc k, low, at) = inr (k, omega arith, at)

  pub none_there : {A : Type 0} (x : X) → Contains [] x → A
  none_there x (k, low, at) = absurd (omega arith)

  pub all_there : (P : X → Type 0) (xs : List X) (x : X) → AllByRecursion P xs → Contains xs x → P x
  all_there P xs x all at = All-contains P xs x (All-from_recursion P xs all) at

  -- where a list is filtered
  module _ (p : X → Bool) where
    in_step : (b : Bool) (y x : X) (rest : List X) → Contains rest x → Contains (cond b (y ∷ rest) rest) x
    in_step true y x rest at = later y x rest at
    in_step false y x rest at = at

    here_step : (b : Bool) (y : X) (rest : List X) → b ≡ true → Contains (cond b (y ∷ rest) rest) y
    here_step b y rest e = rw e (here y rest)

    pub in_filter : (xs : List X) (x : X) → Contains xs x → p x ≡ true → Contains (filter p xs) x
    in_filter [] x at e = none_there x at
    in_filter (y ∷ xs) x at e =
        ⊎_elim (λ (same : y ≡ x). subst (λ (z : X). Contains (cond (p y) (y ∷ filter p xs) (filter p xs)) z) same (here_step (p y) y (filter p xs) (ap p same ∙ e)))
        (λ rest. in_step (p y) y x (filter p xs) (in_filter xs x rest e))
        (here_or_later y x xs at)

    out_step : (b : Bool) (y x : X) (rest : List X) → Contains (cond b (y ∷ rest) rest) x → ((b ≡ true) × (y ≡ x)) ⊎ Contains rest x
    out_step true y x rest at = ⊎_elim (λ (e : y ≡ x). inl (refl, e)) (λ r. inr r) (here_or_later y x rest at)
    out_step false y x rest at = inr at

    pub out_of_filter : (xs : List X) (x : X) → Contains (filter p xs) x → Contains xs x × (p x ≡ true)
    out_of_filter [] x at = none_there x at
    out_of_filter (y ∷ xs) x at =
        ⊎_elim (λ (two : (p y ≡ true) × (y ≡ x)). (subst (λ (z : X). Contains (y ∷ xs) z) two.1 (here y xs), ap p (sym two.1) ∙ two.0))
        (λ rest. let two = out_of_filter xs x rest in (later y x xs two.0, two.1))
        (out_step (p y) y x (filter p xs) at)

-- where a list is mapped
module _ {X Y : Type 0} (f : X → Y) where
  pub in_map : (xs : List X) (x : X) → Contains xs x → Contains (map f xs) (f x)
  in_map [] x at = none_there x at
  in_map (y ∷ xs) x at =
      ⊎_elim (λ (same : y ≡ x). subst (λ (z : X). Contains (f y ∷ map f xs) (f z)) same (here (f y) (map f xs)))
      (λ rest. later (f y) (f x) (map f xs) (in_map xs x rest))
      (here_or_later y x xs at)

  pub out_of_map : (xs : List X) (y : Y) → Contains (map f xs) y → (x : X) × Contains xs x × (f x ≡ y)
  out_of_map [] y at = none_there y at
  out_of_map (x ∷ xs) y at =
      ⊎_elim (λ (same : f x ≡ y). (x, here x xs, same))
      (λ rest. let three = out_of_map xs y rest in (three.0, later x three.0 xs three.1, three.2))
      (here_or_later (f x) y (map f xs) at)

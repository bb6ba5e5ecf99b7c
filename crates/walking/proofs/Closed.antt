-- A walk over all rows lists each field of the rows that it walks and of each fragment that it enters, and no other place.
use Rattle.std.proofs.Common.{◌≡◌, ℕ, suc, ◌<◌, ◌≤◌, ◌⊎◌, inl, inr, List, ◌∷◌, ◌++◌, length, get_or, set, sym, ◌∙◌, subst, get_or-set_other, arith}
use Rattle.std.proofs.lemmas.Bool.{cases_eq}
use Rattle.stored_tables.specs.declared.stored.StoredDocument.{StoredDocument}
use Rattle.walking.specs.declared.turn.Scope.TheVariants.{Deep}
use Rattle.finished_rules.specs.ReachesInTables.{fragment_at, Beneath, Field, Names}
use Rattle.walking.specs.Tables.{InShape}
use Rattle.walking.specs.Walk.{Fresh, Walk, done, field, enter, pass}
use Rattle.walking.specs.Listed.{Among}
use Rattle.walking.proofs.Numbers.{one_not_two}
use Rattle.walking.proofs.Places.{among_left, among_right, among_either, Marked, was_clear}
use Rattle.walking.proofs.Marking.{wide, wide_after, keeps, clears, entered}

-- the row q is listed if it is a field, and what it spreads is entered
abbrev pub Settled : StoredDocument → List ℕ → List ℕ → ℕ → Type 0
Settled d m ps q = (Field d q → Among q ps) × ((f : ℕ) → Names d q f → Marked m f)

-- the fragment f is entered on the way
abbrev pub New : StoredDocument → List ℕ → List ℕ → ℕ → Type 0
New d m m′ f = (f < length d.fragments.now) × (get_or m f 0 ≡ 0) × Marked m′ f

-- the place p is one of the rows walked, or of a fragment entered on the way
abbrev pub Source : StoredDocument → List ℕ → ℕ → ℕ → List ℕ → ℕ → Type 0
Source d m i e m′ p = ((i ≤ p) × (p < e)) ⊎ ((f : ℕ) × New d m m′ f × Beneath (fragment_at d f) p)

later : (d : StoredDocument) (m : List ℕ) (i e : ℕ) (m′ : List ℕ) (p : ℕ) → Source d m (suc i) e m′ p → Source d m i e m′ p
later d m i e m′ p (inl x) = inl (let a = x.0 in omega arith, x.1)
later d m i e m′ p (inr s) = inr s

module _ (d : StoredDocument) (shape : InShape d) where
  pub closed_here : {m : List ℕ} {i e : ℕ} {ps m′ : List ℕ} → length d.fragments.now ≤ length m → Walk d Deep m i e ps m′ → (q : ℕ) → i ≤ q → q < e → Settled d m′ ps q
  closed_here long (done h) q a b = absurd (omega arith)
  closed_here {m} {i} {e} long (field {places = ps} {marks′ = m′} l c w) q a b = go (λ k. closed_here long w q k b) (cases_eq q i)
    where
      go : (suc i ≤ q → Settled d m′ ps q) → (q ≡ i) ⊎ (q ≡ i → ⊥) → Settled d m′ (i ∷ ps) q
      go ih (inl same) = (λ _. inl same, λ f n. absurd (one_not_two _ c (subst (λ (x : ℕ). Names d x f) same n).spread))
      go ih (inr other) = let r = ih (omega arith) in (λ k. inr (r.0 k), r.1)
  closed_here {m} {i} {e} long (enter {places = ps} {between = m₁} {others = qs} {marks′ = m′} g l c v w) q a b =
      go (λ k. closed_here (wide_after m g long v) w q k b) (cases_eq q i)
    where
      go : (suc i ≤ q → Settled d m′ qs q) → (q ≡ i) ⊎ (q ≡ i → ⊥) → Settled d m′ (ps ++ qs) q
      go ih (inl same) =
          let marked : Marked m′ g = keeps (wide_after m g long v) w g (entered m i g long c v) in (
            λ k. absurd (one_not_two _ (subst (λ (x : ℕ). Field d x) same k) c.names.spread),
            λ f n.
                let at = subst (λ (x : ℕ). Names d x f) same n in
                let is : g ≡ f = shape.names g f c.names.there at.there (c.names.named ∙ sym at.named) in
                subst (λ (x : ℕ). Marked m′ x) is marked,
          )
      go ih (inr other) = let r = ih (omega arith) in (λ k. among_right q ps qs (r.0 k), r.1)
  closed_here {m} {i} {e} long (pass {places = ps} {marks′ = m′} l n o w) q a b = go (λ k. closed_here long w q k b) (cases_eq q i)
    where
      go : (suc i ≤ q → Settled d m′ ps q) → (q ≡ i) ⊎ (q ≡ i → ⊥) → Settled d m′ ps q
      go ih (inl same) = (
        λ k. absurd (n (subst (λ (x : ℕ). Field d x) same k)),
        λ f k. keeps long w f (λ z. o f (record { names = subst (λ (x : ℕ). Names d x f) same k; unmarked = z })),
      )
      go ih (inr other) = ih (omega arith)

  pub closed_new : {m : List ℕ} {i e : ℕ} {ps m′ : List ℕ} → length d.fragments.now ≤ length m → Walk d Deep m i e ps m′ → (f : ℕ) → New d m m′ f → (q : ℕ) → Beneath (fragment_at d f) q → Settled d m′ ps q
  closed_new long (done h) f k q b = absurd (k.2 k.1)
  closed_new long (field l c w) f k q b = let r = closed_new long w f k q b in (λ z. inr (r.0 z), r.1)
  closed_new {m} {i} {e} long (enter {places = ps} {between = m₁} {others = qs} {marks′ = m′} g l c v w) f k q b =
      go (λ n. closed_new (wide m g long) v f n q b) (λ n. closed_new (wide_after m g long v) w f n q b) (cases_eq f g) (cases_eq (get_or m₁ f 0) 0)
    where
      early : Settled d m₁ ps q → Settled d m′ (ps ++ qs) q
      early r = (λ z. among_left q ps qs (r.0 z), λ x y. keeps (wide_after m g long v) w x (r.1 x y))

      go : (New d (set m g 1) m₁ f → Settled d m₁ ps q) → (New d m₁ m′ f → Settled d m′ qs q) → (f ≡ g) ⊎ (f ≡ g → ⊥) → (get_or m₁ f 0 ≡ 0) ⊎ (get_or m₁ f 0 ≡ 0 → ⊥) → Settled d m′ (ps ++ qs) q
      go ihv ihw (inl same) z =
          let at = subst (λ (x : ℕ). Beneath (fragment_at d x) q) same b in
          early (closed_here (wide m g long) v q at.0 at.1)
      go ihv ihw (inr other) (inl late) = let r = ihw (k.0, late, k.2) in (λ z. among_right q ps qs (r.0 z), r.1)
      go ihv ihw (inr other) (inr before) = early (ihv (k.0, get_or-set_other m g f 1 0 other ∙ k.1, before))
  closed_new long (pass l c n w) f k q b = closed_new long w f k q b

  -- a place of the fragment that is entered, or of one entered on the way through it
  pub inner : (m : List ℕ) (i f : ℕ) (m₁ : List ℕ) {p : ℕ} → length d.fragments.now ≤ length m → Fresh d m i f → Marked m₁ f
      → Source d (set m f 1) (fragment_at d f).row.first (fragment_at d f).row.end m₁ p → (g : ℕ) × New d m m₁ g × Beneath (fragment_at d g) p
  inner m i f m₁ long c k (inl s) = (f, (c.names.there, c.unmarked, k), s)
  inner m i f m₁ long c k (inr s) =
      let t = c.names.there in
      let x = was_clear m f s.0 (omega arith) s.1.1 in
      (s.0, (s.1.0, x.1, s.1.2), s.2)

  pub lists : {m : List ℕ} {i e : ℕ} {ps m′ : List ℕ} → length d.fragments.now ≤ length m → Walk d Deep m i e ps m′ → (p : ℕ) → Among p ps → Field d p × Source d m i e m′ p
  lists long (done h) p k = absurd k
  lists {m} {i} {e} long (field {marks′ = m′} l c w) p (inl same) = subst (λ (x : ℕ). Field d x × Source d m i e m′ x) (sym same) (c, inl (omega arith, l))
  lists {m} {i} {e} long (field {marks′ = m′} l c w) p (inr k) = let r = lists long w p k in (r.0, later d m i e m′ p r.1)
  lists {m} {i} {e} long (enter {places = ps} {between = m₁} {others = qs} {marks′ = m′} g l c v w) p k =
      go (lists (wide m g long) v p) (lists (wide_after m g long v) w p) (among_either p ps qs k)
    where
      earlier : (x : ℕ) → get_or m₁ x 0 ≡ 0 → get_or m x 0 ≡ 0
      earlier x z = let t = c.names.there in (was_clear m g x (omega arith) (clears (wide m g long) v x z)).1

      behind : Source d m₁ (suc i) e m′ p → Source d m i e m′ p
      behind (inl x) = inl (let a = x.0 in omega arith, x.1)
      behind (inr s) = inr (s.0, (s.1.0, earlier s.0 s.1.1, s.1.2), s.2)

      go : (Among p ps → Field d p × Source d (set m g 1) (fragment_at d g).row.first (fragment_at d g).row.end m₁ p) → (Among p qs → Field d p × Source d m₁ (suc i) e m′ p) → Among p ps ⊎ Among p qs → Field d p × Source d m i e m′ p
      go ihv ihw (inl h) =
          let r = ihv h in
          let s = inner m i g m₁ long c (entered m i g long c v) r.1 in
          (r.0, inr (s.0, (s.1.0, s.1.1, keeps (wide_after m g long v) w s.0 s.1.2), s.2))
      go ihv ihw (inr h) = let r = ihw h in (r.0, behind r.1)
  lists {m} {i} {e} long (pass {marks′ = m′} l c n w) p k = let r = lists long w p k in (r.0, later d m i e m′ p r.1)

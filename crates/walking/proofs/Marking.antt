-- What a walk does to the marks.
use Rattle.std.proofs.Common.{◌≡◌, ℕ, ◌≤◌, ◌⊎◌, inl, inr, List, length, get_or, set, refl, ◌∙◌, length-set, arith}
use Rattle.std.proofs.lemmas.Bool.{cases_eq}
use Rattle.stored_tables.specs.declared.stored.StoredDocument.{StoredDocument}
use Rattle.walking.specs.declared.turn.Scope.{Scope}
use Rattle.walking.specs.Walk.{Fresh, Walk, done, field, enter, pass}
use Rattle.walking.proofs.Places.{Marked, now_marked, still_marked}

pub wide : {n : ℕ} (m : List ℕ) (f : ℕ) → n ≤ length m → n ≤ length (set m f 1)
wide m f long = omega (arith, length-set m f 1)

module _ {d : StoredDocument} {sc : Scope} where
  pub same_long : {m : List ℕ} {i e : ℕ} {ps m′ : List ℕ} → Walk d sc m i e ps m′ → length m′ ≡ length m
  same_long (done h) = refl
  same_long (field l k w) = same_long w
  same_long {m} (enter f l k v w) = same_long w ∙ (same_long v ∙ length-set m f 1)
  same_long (pass l k n w) = same_long w

  pub wide_after : (m : List ℕ) (f : ℕ) {j e : ℕ} {ps m₁ : List ℕ} → length d.fragments.now ≤ length m → Walk d sc (set m f 1) j e ps m₁ → length d.fragments.now ≤ length m₁
  wide_after m f long v = omega (arith, length-set m f 1, same_long v)

  pub keeps : {m : List ℕ} {i e : ℕ} {ps m′ : List ℕ} → length d.fragments.now ≤ length m → Walk d sc m i e ps m′ → (g : ℕ) → Marked m g → Marked m′ g
  keeps long (done h) g k = k
  keeps long (field l c w) g k = keeps long w g k
  keeps {m} long (enter f l c v w) g k =
      let t = c.names.there in
      keeps (wide_after m f long v) w g (keeps (wide m f long) v g (still_marked m f g (omega arith) k))
  keeps long (pass l c n w) g k = keeps long w g k

  -- what is not entered at the end was not at the start
  pub clears : {m : List ℕ} {i e : ℕ} {ps m′ : List ℕ} → length d.fragments.now ≤ length m → Walk d sc m i e ps m′ → (g : ℕ) → get_or m′ g 0 ≡ 0 → get_or m g 0 ≡ 0
  clears {m} {m′ = m′} long w g e = go (cases_eq (get_or m g 0) 0)
    where
      go : (get_or m g 0 ≡ 0) ⊎ (get_or m g 0 ≡ 0 → ⊥) → get_or m g 0 ≡ 0
      go (inl z) = z
      go (inr z) = absurd (keeps long w g z e)

  -- a fragment that is entered stays marked
  pub entered : (m : List ℕ) (i f : ℕ) {j e : ℕ} {ps m₁ : List ℕ} → length d.fragments.now ≤ length m → Fresh d m i f → Walk d sc (set m f 1) j e ps m₁ → Marked m₁ f
  entered m i f long c v = let t = c.names.there in keeps (wide m f long) v f (now_marked m f (omega arith))

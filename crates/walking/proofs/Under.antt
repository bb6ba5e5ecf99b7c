-- A walk under way: what it has come upon, and what its open steps list.
use Rattle.std.proofs.Common.{◌≡◌, ℕ, zero, suc, ◌+◌, ◌<◌, ◌≤◌, true, eqb, List, [], ◌∷◌, ◌++◌, length, get_or, set, replicate, Some, None, sym, refl, ap, ◌∙◌, subst, append_assoc, length-append, length-set, arith}
use Rattle.std.proofs.lemmas.List.{append-nil, length-replicate}
use Rattle.stored_tables.specs.declared.definition.StoredDefinition.{StoredDefinition}
use Rattle.stored_tables.specs.declared.stored.StoredDocument.{StoredDocument}
use Rattle.walking.specs.declared.turn.Scope.{Scope}
use Rattle.walking.specs.declared.turn.Scope.TheVariants.{Deep}
use Rattle.walking.specs.declared.turn.WalkStep.{WalkStep}
use Rattle.walking.specs.Tables.{InShape, Walkable}
use Rattle.walking.specs.Walk.{Walk, Listing}
use Rattle.walking.specs.Turning.{Going, going, step_at, Pending, tally, Ready, Turned}
use Rattle.walking.proofs.Steps.{step_written}
use Rattle.walking.proofs.Exact.{few}
use Rattle.walking.proofs.Going.{at_most, pending}

-- the places come upon so far, with those that the open steps list, are those of the walk of s
pub record Under (d : StoredDocument) (sc : Scope) (s : StoredDefinition) (g : Going) (out : List ℕ) : Type 0 where
  pub ready : Ready d g
  pub rest : (ys : List ℕ) → Pending d sc g.stack g.depth g.marks ys → Listing d sc s (out ++ ys)

-- each fragment is left where none is entered
all_left : (w : ℕ → ℕ) (m : List ℕ) (n : ℕ) → ((f : ℕ) → f < n → w f ≡ 1) → tally w m n ≤ n
all_left w m zero one = omega arith
all_left w m (suc n) one =
    let rest = all_left w m n (λ f low. one f (omega arith)) in
    let here = at_most (eqb (get_or m n 0) 0) true (w n) (λ is. refl) in
    let is = one n (omega arith) in
    omega arith

module _ (d : StoredDocument) (sc : Scope) (s : StoredDefinition) where
  pub under_way : Walkable d s → (st : List WalkStep) (m : List ℕ) → length st ≡ length d.fragments.now + 1 → m ≡ replicate (length d.fragments.now) 0
      → Under d sc s (going (set st 0 (record { next = s.row.first; end = s.row.end })) 1 m) []
  under_way ok st m tall is =
      let top : step_at (set st 0 (record { next = s.row.first; end = s.row.end })) 0 ≡ record { next = s.row.first; end = s.row.end } = step_written st 0 _ (omega arith) in
      let few = all_left (λ f. 1) m (length d.fragments.now) (λ f low. refl) in
      record {
        ready = record {
          inside = λ j low. let first : j ≡ 0 = omega arith in rw (first, top) ok.within;
          room = rw length-set (omega arith);
          each = ap length is ∙ length-replicate (length d.fragments.now) zero;
        };
        rest =
            λ ys p.
            let v : Walk d sc m s.row.first s.row.end p.0 p.1 = subst (λ (x : WalkStep). Walk d sc m x.next x.end p.0 p.1) top p.3 in
            let u : Walk d sc (replicate (length d.fragments.now) 0) s.row.first s.row.end p.0 p.1 = subst (λ (x : List ℕ). Walk d sc x s.row.first s.row.end p.0 p.1) is v in
            let e : p.0 ≡ ys = sym (append-nil p.0) ∙ (ap (λ (x : List ℕ). p.0 ++ x) (sym p.4) ∙ sym p.5) in
            record { after = p.1; walk = subst (λ (x : List ℕ). Walk d sc (replicate (length d.fragments.now) 0) s.row.first s.row.end x p.1) e u };
      }

  pub gone_on : (old new : Going) (out : List ℕ) → Under d sc s old out → Turned d sc old new None → Under d sc s new out
  gone_on old new out under turned = record { ready = turned.ready; rest = λ ys p. under.rest ys (turned.goes_on ys p) }

  pub come_upon : (old new : Going) (out : List ℕ) (p : ℕ) → Under d sc s old out → Turned d sc old new (Some p) → Under d sc s new (out ++ p ∷ [])
  come_upon old new out p under turned =
      record { ready = turned.ready; rest = λ ys w. subst (Listing d sc s) (sym (append_assoc out (p ∷ []) ys)) (under.rest (p ∷ ys) (turned.goes_on ys w)) }

  -- what is listed so far is the beginning of a listing
  pub whole_listing : InShape d → (g : Going) (out : List ℕ) → Under d sc s g out → (ys : List ℕ) × Listing d sc s (out ++ ys)
  whole_listing shape g out under =
      let rest = pending d shape sc g.stack g.depth g.marks (let e = under.ready.each in omega arith) under.ready.inside in
      (rest.0, under.rest rest.0 rest.1)

  -- a walk over all rows comes upon no more places than there are rows
  pub counted : Walkable d s → (g : Going) (out : List ℕ) → sc ≡ Deep → Under d sc s g out → length out ≤ length d.rows.now
  counted ok g out is under =
      let all = whole_listing ok.shape g out under in
      let low = few d s ok (out ++ all.0) (subst (λ (x : Scope). Listing d x s (out ++ all.0)) is all.1) in
      let long = length-append out all.0 in
      omega arith

  pub over : (st : List WalkStep) (depth : ℕ) (m : List ℕ) (out : List ℕ) → Under d sc s (going st depth m) out → depth ≤ 0 → Listing d sc s out
  over st depth m out under none =
      let is : depth ≡ 0 = omega arith in
      let at = subst (λ (k : ℕ). Under d sc s (going st k m) out) is under in
      subst (Listing d sc s) (append-nil out) (at.rest [] refl)

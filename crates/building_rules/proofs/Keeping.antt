-- What is stored of selections is exactly what is kept, in the order in which it was handed in.
use Rattle.std.proofs.Common.{ℕ, subst}
use Rattle.layout.specs.Forest.{Forest, none, row}
use Rattle.document.specs.Rows.{Selection}
use Rattle.schema.specs.Meaning.{Meaning}
use Rattle.selection_rules.specs.declared.settling.Settled.{Settled}
use Rattle.selection_rules.specs.Stored.{form_of, Stored}
use Rattle.selection_rules.specs.Sets.{settled_in}
use Rattle.selection_rules.specs.Sets.{some_row, keep, build}
use Rattle.building_rules.specs.Rules.{Inside, Occurs}
use Rattle.building_rules.specs.Whole.{handed}
use Rattle.building_rules.specs.Keeping.{Fit, Keeps, StoredAs, KeptAs, KeptExactly, Part, KeptInOrder}
use Rattle.building_rules.proofs.Settling.{View, stays, drops, faults, view}

module _ (m : Meaning) (x : Stored) where
  kept_later : {around : ℕ} {b : Selection} {under after : Forest Selection} → KeptAs m around after x → KeptAs m around (row b under after) x
  kept_later k = record { type = k.type; selection = k.selection; below = k.below; keeps = Keeps.later k.keeps; shape = k.shape }

  kept_deeper : {around : ℕ} {b : Selection} {under after : Forest Selection} (inner : ℕ) → Fit m around b under → Inside m around b inner → KeptAs m inner under x → KeptAs m around (row b under after) x
  kept_deeper inner fit inside k =
      record { type = k.type; selection = k.selection; below = k.below; keeps = Keeps.deeper inner fit inside k.keeps; shape = k.shape }

  module _ (around : ℕ) (s : Selection) (below after : Forest Selection) where
    -- x in a row, beneath it or after it
    occurs_row : {y : Stored} {u v : Forest Stored} (inner : ℕ) → Fit m around s below → Inside m around s inner → StoredAs m around s y
        → (Occurs x u → KeptAs m inner below x) → (Occurs x v → KeptAs m around after x) → Occurs x (row y u v) → KeptAs m around (row s below after) x
    occurs_row inner fit inside shape lower next Occurs.here =
        record { type = around; selection = s; below = below; keeps = Keeps.here fit; shape = shape }
    occurs_row inner fit inside shape lower next (Occurs.later o) = kept_later (next o)
    occurs_row inner fit inside shape lower next (Occurs.deeper o) = kept_deeper inner fit inside (lower o)

    kept_as : (w : Settled) → View m around s below (form_of s) w
        → ((inner : ℕ) → Occurs x (build m inner below) → KeptAs m inner below x) → (Occurs x (build m around after) → KeptAs m around after x)
        → Occurs x (keep w s (λ inner. build m inner below) (build m around after)) → KeptAs m around (row s below after) x
    kept_as w (stays place inner fit inside one_inside shape one-shape) lower next o = occurs_row inner fit inside shape (lower inner) next o
    kept_as w (drops e unfit) lower next o = kept_later (next o)
    kept_as w (faults fault unfit) lower next o = kept_later (next o)

    -- the other way: a selection that is kept here, beneath or after
    occurs_here : (w : Settled) → View m around s below (form_of s) w → Fit m around s below → StoredAs m around s x
        → Occurs x (keep w s (λ inner. build m inner below) (build m around after))
    occurs_here w (stays place inner fit inside one_inside shape one-shape) is at =
        subst (λ (y : Stored). Occurs x (row y (build m inner below) (build m around after))) (one-shape x at) Occurs.here
    occurs_here w (drops e unfit) is at = absurd (unfit is)
    occurs_here w (faults fault unfit) is at = absurd (unfit is)

    occurs_later : (w : Settled) → View m around s below (form_of s) w → Occurs x (build m around after) → Occurs x (keep w s (λ inner. build m inner below) (build m around after))
    occurs_later w (stays place inner fit inside one_inside shape one-shape) o = Occurs.later o
    occurs_later w (drops e unfit) o = o
    occurs_later w (faults fault unfit) o = o

    occurs_deeper : (w : Settled) → View m around s below (form_of s) w → (i : ℕ) → Fit m around s below → Inside m around s i → Occurs x (build m i below)
        → Occurs x (keep w s (λ inner. build m inner below) (build m around after))
    occurs_deeper w (stays place inner fit inside one_inside shape one-shape) i is at o =
        Occurs.deeper (subst (λ (j : ℕ). Occurs x (build m j below)) (one_inside i at) o)
    occurs_deeper w (drops e unfit) i is at o = absurd (unfit is)
    occurs_deeper w (faults fault unfit) i is at o = absurd (unfit is)

  kept_of : (around : ℕ) (f : Forest Selection) → Occurs x (build m around f) → KeptAs m around f x
  kept_of around none o = elim o [ ]
  kept_of around (row s below after) o =
      kept_as around s below after (settled_in m around s (some_row below)) (view m around s below) (λ inner. kept_of inner below) (kept_of around after) o

  occurs_of : {around : ℕ} {f : Forest Selection} {t : ℕ} {s : Selection} {below : Forest Selection} → Keeps m around f t s below → StoredAs m t s x → Occurs x (build m around f)
  occurs_of (Keeps.here {around} {s} {below} {after} fit) at =
      occurs_here around s below after (settled_in m around s (some_row below)) (view m around s below) fit at
  occurs_of (Keeps.later {around} {b} {under} {after} k) at =
      occurs_later around b under after (settled_in m around b (some_row under)) (view m around b under) (occurs_of k at)
  occurs_of (Keeps.deeper {around} {b} {under} {after} inner fit inside k) at =
      occurs_deeper around b under after (settled_in m around b (some_row under)) (view m around b under) inner fit inside (occurs_of k at)

pub kept_exactly : KeptExactly
kept_exactly m around f x = (kept_of m x around f, λ k. occurs_of m x k.keeps k.shape)

part_row : (m : Meaning) (around : ℕ) (s : Selection) (below after : Forest Selection) (w : Settled) → View m around s below (form_of s) w
    → ((inner : ℕ) → Part (handed (build m inner below)) below) → Part (handed (build m around after)) after
    → Part (handed (keep w s (λ inner. build m inner below) (build m around after))) (row s below after)
part_row m around s below after w (stays place inner fit inside one_inside shape one-shape) lower next = Part.kept (lower inner) next
part_row m around s below after w (drops e unfit) lower next = Part.left_out next
part_row m around s below after w (faults fault unfit) lower next = Part.left_out next

pub kept_in_order : KeptInOrder
kept_in_order m around none = Part.nothing
kept_in_order m around (row s below after) =
    part_row m around s below after (settled_in m around s (some_row below)) (view m around s below) (λ inner. kept_in_order m inner below) (kept_in_order m around after)

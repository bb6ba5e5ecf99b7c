-- Taking in the definitions of a document, one after the other: those that are left lead to what all lead to.
use Rattle.std.proofs.Common.{◌≡◌, ℕ, zero, suc, ◌+◌, ◌<◌, ◌≤◌, Bool, List, [], ◌∷◌, length, get_or, drop, sym, refl, ap, ◌∙◌, subst, arith}
use Rattle.std.proofs.ByRecursion.{All-get_or}
use Rattle.std.proofs.lemmas.List.{drop_more, drop_all}
use Rattle.layout.specs.Forest.{size}
use Rattle.document.specs.declared.rows.DefinitionRow.{DefinitionRow}
use Rattle.document.specs.declared.rows.SelectionRow.{SelectionRow}
use Rattle.document.specs.declared.handed.sets.SelectionSet.{SelectionSet}
use Rattle.document.specs.Rows.{Head, head_of, head_broken}
use Rattle.document.specs.Document.{Definition, no_definition, definition_rows, KeepsRules, IsDocument}
use Rattle.document.specs.Sets.{no_definition_row, Holds}
use Rattle.document.proofs.Sets.{rows_many}
use Rattle.schema.specs.Meaning.{Meaning}
use Rattle.building_rules.specs.Definitions.{Accepted, accepted_from}
use Rattle.building_rules.specs.Bounds.{needs_for}
use Rattle.building_rules.proofs.Histories.{documents_are_read}
use Rattle.builder.specs.Holding.{Held, one_in, taken_in}
use Rattle.builder.specs.Storing.{Indexed}
use Rattle.builder.specs.Space.{Space}
use Rattle.builder.specs.Taking.{handed_in, Ready, AllReady}
use Rattle.builder.proofs.Puts.{put_nil}
use Rattle.builder.proofs.Outputs.{same_output}
use Rattle.builder.proofs.Kepts.{same_held}
use Rattle.builder.proofs.States.{taken_two, one_taken}
use Rattle.builder.proofs.Spaces.{space_one, roomy, fitting, space_left}

-- the head of a row is that of the definition that the row stands for
head_there : (s : ℕ) (docs : List Definition) (k : ℕ) → k < length docs → head_of (get_or (definition_rows s docs) k no_definition_row) ≡ (get_or docs k no_definition).head
head_there s [] k low = absurd (omega arith)
head_there s (d ∷ docs) zero low = refl
head_there s (d ∷ docs) (suc k) low = head_there (s + size d.selected) docs k (omega arith)

-- no definition changes nothing
pub nothing_in : (m : Meaning) (h : Held) → taken_in m h [] ≡ h
nothing_in m h =
    same_held refl refl
    (same_output (put_nil h.output.rows h.output.filled.rows) (put_nil h.output.errors h.output.filled.errors) (put_nil h.output.path_keys h.output.filled.path_keys)
    (omega arith) (omega arith) (omega arith))
    refl refl

-- the first of several definitions, and then the others
pub taken_first : (m : Meaning) (h : Held) (d : Accepted) (ds : List Accepted) → Space h (needs_for (d ∷ ds)) → taken_in m (one_in m h d) ds ≡ taken_in m h (d ∷ ds)
taken_first m h d ds space =
    let one = space_one h d ds space in
    ap (λ (x : Held). taken_in m x ds) (sym (one_taken m h d)) ∙ taken_two m h (d ∷ []) ds (roomy m h (d ∷ []) one) (fitting m h (d ∷ []) one)

module _ (m : Meaning) (definitions : List DefinitionRow) (rows : List SelectionRow) (strict : Bool) (h₀ : Held) where
  pub record Going (place : ℕ) (h : Held) : Type 0 where
    pub document : List Definition
    pub is : IsDocument definitions rows document
    pub left : taken_in m h (accepted_from strict (drop place document)) ≡ taken_in m h₀ (accepted_from strict document)
    pub space : Space h (needs_for (accepted_from strict (drop place document)))
    pub operations : Indexed h.operations
    pub fragments : Indexed h.fragments

  pub begin : (d : List Definition) → AllReady definitions rows strict d h₀ → Going 0 h₀
  begin d ready = record { document = d; is = ready.is; left = refl; space = ready.space; operations = ready.operations; fragments = ready.fragments }

  -- the definition at a place
  module _ (place : ℕ) (h : Held) (w : Going place h) (low : place < length definitions) where
    abbrev pub here : Definition
    here = get_or w.document place no_definition

    inside : place < length w.document
    inside = omega (arith, ap length w.is.heads, rows_many rows 0 w.document)

    head_here : head_of (get_or definitions place no_definition_row) ≡ here.head
    head_here = ap (λ (ds : List DefinitionRow). head_of (get_or ds place no_definition_row)) w.is.heads ∙ head_there 0 w.document place inside

    abbrev pub this : Accepted
    this = handed_in (head_of (get_or definitions place no_definition_row)) here.selected strict

    all_left : accepted_from strict (drop place w.document) ≡ this ∷ accepted_from strict (drop (place + 1) w.document)
    all_left =
        ap (accepted_from strict) (drop_more w.document place no_definition inside)
        ∙ ap (λ (x : Head). handed_in x here.selected strict ∷ accepted_from strict (drop (place + 1) w.document)) (sym head_here)

    space_here : Space h (needs_for (this ∷ accepted_from strict (drop (place + 1) w.document)))
    space_here = subst (λ (ds : List Accepted). Space h (needs_for ds)) all_left w.space

    pub ready : (set : SelectionSet) → Holds rows set here.selected → Ready rows set this h
    ready set holds =
        let keeps = All-get_or KeepsRules w.document place no_definition inside w.is.keep in
        record {
          whole = ap head_broken head_here ∙ keeps.whole;
          holds = holds;
          shallow = keeps.shallow;
          space = space_one h this (accepted_from strict (drop (place + 1) w.document)) space_here;
          operations = w.operations;
          fragments = w.fragments;
        }

    pub go_on : (next : Held) → next ≡ one_in m h this → Indexed next.operations → Indexed next.fragments → Going (place + 1) next
    go_on next is operations fragments =
        let rest = accepted_from strict (drop (place + 1) w.document) in
        record {
          document = w.document;
          is = w.is;
          left = ap (λ (x : Held). taken_in m x rest) is ∙ taken_first m h this rest space_here ∙ ap (taken_in m h) (sym all_left) ∙ w.left;
          space = subst (λ (x : Held). Space x (needs_for rest)) (sym is) (space_left m h this rest space_here);
          operations = operations;
          fragments = fragments;
        }

  pub finish : (place : ℕ) (h : Held) (w : Going place h) → length definitions ≤ place → (d : List Definition) → IsDocument definitions rows d → h ≡ taken_in m h₀ (accepted_from strict d)
  finish place h w past d is =
      let over : length w.document ≤ place = omega (arith, ap length w.is.heads, rows_many rows 0 w.document) in
      let same : w.document ≡ d = sym (documents_are_read definitions rows w.document w.is) ∙ documents_are_read definitions rows d is in
      sym (nothing_in m h)
      ∙ ap (λ (ds : List Definition). taken_in m h (accepted_from strict ds)) (sym (drop_all place w.document over))
      ∙ w.left
      ∙ ap (λ (ds : List Definition). taken_in m h₀ (accepted_from strict ds)) same

-- A script is run call by call: what is answered, and what is left to answer, is what all comes to.
use Rattle.std.proofs.Common.{◌≡◌, ℕ, Bool, false, cond, ◌+◌, ◌<◌, ◌≤◌, List, [], ◌∷◌, ◌++◌, length, get_or, take, drop, set, None, Ok, Err, Option, Result, sym, refl, ap, ◌∙◌, subst, append_assoc, append-nil, arith, length-set, take-append-drop}
use Rattle.std.specs.Result.{result_err}
use Rattle.std.proofs.lemmas.List.{drop_more, drop_all, take_all, take_more_set, drop-set-lt, drop-drop}
use Rattle.schema.specs.Meaning.{Meaning}
use Rattle.building_rules.specs.Definitions.{accepted_from}
use Rattle.building_rules.specs.Calls.{Call, document_in}
use Rattle.stored_tables.specs.declared.tables.Tables.{Tables}
use Rattle.builder.specs.declared.builder.ExecutableDocumentBuilder.{ExecutableDocumentBuilder}
use Rattle.builder.specs.declared.fault.BuilderFault.{BuilderFault}
use Rattle.builder.specs.Holding.{Held, taken_in}
use Rattle.builder.specs.Adding.{held_in, after_adding}
use Rattle.builder.specs.Certificate.{Stands}
use Rattle.builder.specs.Lent.{SameTables, SameLengths, SameFurtherSlots}
use Rattle.scripts.specs.declared.script.Adding.{Adding}
use Rattle.scripts.specs.Script.{Lengths, lengths_of, answer_to, call_of, answered_from, calls_from}
use Rattle.scripts.specs.Running.{held_after}

-- what stands past the last call
abbrev pub no_adding : Adding
no_adding = record { document = record { definitions = record { ref_ptr = (0, 0); now = [] }; rows = record { ref_ptr = (0, 0); now = [] } }; strict = false; answer = None }

-- a call with its answer
abbrev pub answered : Adding → Option BuilderFault → Adding
answered a x = record a { answer = x }

pub same_lengths : (before after : Tables) → SameLengths before after → lengths_of after ≡ lengths_of before
same_lengths before after same =
    let a = same.operations in
    let b = same.fragments in
    let c = same.rows in
    let d = same.errors in
    let e = same.path_keys in
    cc

pub both_same : (a b c : Tables) → SameTables a b → SameTables b c → SameTables a c
both_same a b c s t =
    record {
      operations = t.operations ∙ s.operations;
      operation_slots = t.operation_slots ∙ s.operation_slots;
      fragments = t.fragments ∙ s.fragments;
      fragment_slots = t.fragment_slots ∙ s.fragment_slots;
      rows = t.rows ∙ s.rows;
      errors = t.errors ∙ s.errors;
      path_keys = t.path_keys ∙ s.path_keys;
    }

pub both_long : (a b c : Tables) → SameLengths a b → SameLengths b c → SameLengths a c
both_long a b c s t =
    record {
      operations = t.operations ∙ s.operations;
      operation_slots = t.operation_slots ∙ s.operation_slots;
      fragments = t.fragments ∙ s.fragments;
      fragment_slots = t.fragment_slots ∙ s.fragment_slots;
      rows = t.rows ∙ s.rows;
      errors = t.errors ∙ s.errors;
      path_keys = t.path_keys ∙ s.path_keys;
    }

pub both_further : (a b c : Tables) → SameFurtherSlots a b → SameFurtherSlots b c → SameFurtherSlots a c
both_further a b c s t = record { operations = t.operations ∙ s.operations; fragments = t.fragments ∙ s.fragments }

-- what is held after one call more
pub one_call_more : (m : Meaning) (calls : List Call) (h : Held) (a : Adding) (r : Result Unit BuilderFault)
    → held_after m h (calls ++ call_of a (result_err r) ∷ []) ≡ after_adding m (held_after m h calls) a.document.definitions.now a.document.rows.now a.strict r
one_call_more m [] h a (Ok x) = refl
one_call_more m [] h a (Err f) = refl
one_call_more m (c ∷ calls) h a r =
    one_call_more m calls (cond c.refused h (taken_in m h (accepted_from c.strict (document_in c.definitions c.rows)))) a r

module _ {S : Type 0} (meaning : S → Meaning) (m : Meaning) (before : Tables) (begun : Held) (old : List Adding) where
  pub record Going (i : ℕ) (b : ExecutableDocumentBuilder S) (t : Tables) (now : List Adding) : Type 0 where
    pub calls : List Call
    pub inside : i ≤ length old
    pub stands : Stands meaning m calls b t
    pub holds : held_in b.progress t ≡ held_after m begun calls
    pub further_slots : SameFurtherSlots before t
    pub same : SameTables before t
    pub lengths : SameLengths before t
    pub places : length now ≡ length old
    pub done : take i now ++ answered_from (lengths_of before) m calls (drop i old) ≡ answered_from (lengths_of before) m [] old
    pub further : drop i now ≡ drop i old
    pub left : calls_from (lengths_of before) m calls (drop i old) ≡ calls_from (lengths_of before) m [] old

  pub begin : (b : ExecutableDocumentBuilder S) (t : Tables) → Stands meaning m [] b t → held_in b.progress t ≡ begun → SameFurtherSlots before t → SameTables before t → SameLengths before t → Going 0 b t old
  begin b t stands holds slots same long =
      record {
        calls = [];
        inside = omega arith;
        stands = stands;
        holds = holds;
        further_slots = slots;
        same = same;
        lengths = long;
        places = refl;
        done = refl;
        further = refl;
        left = refl;
      }

  module _ (i : ℕ) (b : ExecutableDocumentBuilder S) (t : Tables) (now : List Adding) (w : Going i b t now) where
    pub go_on : (d a : Adding) (x : Option BuilderFault) (next : ExecutableDocumentBuilder S) (after : Tables) → i < length old → a ≡ get_or now i d
        → x ≡ answer_to (lengths_of t) m w.calls a → Stands meaning m (w.calls ++ call_of a x ∷ []) next after
        → held_in next.progress after ≡ held_after m begun (w.calls ++ call_of a x ∷ []) → SameFurtherSlots t after
        → SameTables t after → SameLengths t after → Going (i + 1) next after (set now i (answered a x))
    go_on d a x next after low there is stands holds slots same long =
        let l = lengths_of before in
        let rest = drop (i + 1) old in
        let answer : answer_to l m w.calls a ≡ x = ap (λ (k : Lengths). answer_to k m w.calls a) (sym (same_lengths before t w.lengths)) ∙ sym is in
        let places = w.places in
        let behind : drop (i + 1) now ≡ rest = sym (drop-drop 1 i now) ∙ ap (drop 1) w.further ∙ drop-drop 1 i old in
        let more : drop i old ≡ a ∷ rest =
        sym w.further ∙ drop_more now i d (omega arith) ∙ ap (λ (e : Adding). e ∷ drop (i + 1) now) (sym there) ∙ ap (λ (xs : List Adding). a ∷ xs) behind in
        record {
          calls = w.calls ++ call_of a x ∷ [];
          inside = omega arith;
          stands = stands;
          holds = holds;
          further_slots = both_further before t after w.further_slots slots;
          same = both_same before t after w.same same;
          lengths = both_long before t after w.lengths long;
          places = length-set now i (answered a x) ∙ w.places;
          done =
              ap (λ (xs : List Adding). xs ++ answered_from l m (w.calls ++ call_of a x ∷ []) rest) (take_more_set now i (answered a x) (omega arith))
              ∙ append_assoc (take i now) (answered a x ∷ []) (answered_from l m (w.calls ++ call_of a x ∷ []) rest)
              ∙ ap (λ (y : Option BuilderFault). take i now ++ (answered a y ∷ answered_from l m (w.calls ++ call_of a y ∷ []) rest)) (sym answer)
              ∙ ap (λ (es : List Adding). take i now ++ answered_from l m w.calls es) (sym more)
              ∙ w.done;
          further = drop-set-lt (i + 1) now i (answered a x) (omega arith) ∙ behind;
          left =
              ap (λ (y : Option BuilderFault). calls_from l m (w.calls ++ call_of a y ∷ []) rest) (sym answer)
              ∙ ap (calls_from l m w.calls) (sym more)
              ∙ w.left;
        }

    module _ (over : length old ≤ i) where
      pub all_answered : now ≡ answered_from (lengths_of before) m [] old
      all_answered =
          let l = lengths_of before in
          let places = w.places in
          sym (append-nil now)
          ∙ ap (λ (xs : List Adding). xs ++ answered_from l m w.calls []) (sym (take_all i now (omega arith)))
          ∙ ap (λ (es : List Adding). take i now ++ answered_from l m w.calls es) (sym (drop_all i old over))
          ∙ w.done

      all_calls : w.calls ≡ calls_from (lengths_of before) m [] old
      all_calls = ap (calls_from (lengths_of before) m w.calls) (sym (drop_all i old over)) ∙ w.left

      pub all_called : Stands meaning m (calls_from (lengths_of before) m [] old) b t
      all_called = subst (λ (cs : List Call). Stands meaning m cs b t) all_calls w.stands

      pub all_held : held_in b.progress t ≡ held_after m begun (calls_from (lengths_of before) m [] old)
      all_held = w.holds ∙ ap (held_after m begun) all_calls

-- The entries of rows: where one is found, and what it answers.
use Rattle.std.proofs.Common.{◌≡◌, ℕ, zero, suc, ◌+◌, ◌<◌, Bool, true, false, cond, ◌&&◌, ◌||◌, eqb, List, [], ◌∷◌, map, length, replicate, get_or, take, is_some, Some, None, Ok, Err, Option, slice_get, sym, refl, ap, ◌∙◌, arith}
use Rattle.std.specs.Option.{option_and_then}
use Rattle.std.proofs.lemmas.Option.{slice_get-get_or}
use Rattle.std.specs.List.{enumerate_from}
use Rattle.std.proofs.lemmas.List.{length-replicate, length-map, get_or-map}
use Rattle.std.proofs.lemmas.List.FromFn.{length-enumerate_from, get_or-enumerate_from}
use Rattle.table_schema.specs.declared.rows.FieldRow.{FieldRow}
use Rattle.table_schema.specs.declared.rows.FieldEntry.{FieldEntry}
use Rattle.std.proofs.lemmas.Bool.{false≢true, and_from, eq-eqb}
use Rattle.std.specs.List.{position_from}
use Rattle.ordered_index.specs.Keys.{same_field}
use Rattle.schema.specs.declared.answers.FieldLookupError.TheVariants.{NoSuchType}
use Rattle.schema.specs.Meta.{defined}
use Rattle.table_schema.specs.declared.rows.TypeRow.{TypeRow}
use Rattle.table_schema.specs.declared.fault.RowFault.TheVariants.{NameMissing, Repeated, OwnerUnfit}
use Rattle.table_schema.specs.declared.fault.SchemaFault.{SchemaFault}
use Rattle.table_schema.specs.declared.fault.SchemaFault.TheVariants.{OverLimit, SlotsUnfit, InFields}
use Rattle.table_schema.specs.Keys.{field_key, row_key, entry_key}
use Rattle.table_schema.specs.Meaning.{no_field, named, owns, known_type, kind_there, kind_of, field_there, field_of}
use Rattle.refusal.specs.Firsts.{or_else, verdict_of}
use Rattle.table_schema.specs.Verdict.{owns_fields, field_fault, fault_at, types_fault, fields_fault, rows_fault, over_limit, zeros, empty_index, slots_fault, index_fault}
use Rattle.table_schema.specs.Table.{schema_fault}
use Rattle.table_schema.specs.Found.{first_with}
use Rattle.table_schema.specs.Kept.{no_entry, entry_told, kept_field, entry_of, entries_from, OwnersKnown}
use Rattle.refusal.proofs.Firsts.{no_fault, or_else_none}
use Rattle.table_schema.proofs.Founds.{first_at, with_none, with_some}

-- the keys are those of the rows
pub entry_keys : (k : ℕ) (rows : List FieldRow) → map entry_key (entries_from k rows) ≡ map row_key rows
entry_keys k [] = refl
entry_keys k (row ∷ rows) = ap (λ keys. row_key row ∷ keys) (entry_keys (k + 1) rows)

-- the entry at a place is that of the row there
pub entry_at : (k : ℕ) (rows : List FieldRow) (i : ℕ) → i < length rows → get_or (entries_from k rows) i no_entry ≡ entry_of (k + i + 1) (get_or rows i no_field)
entry_at k rows i low =
    let entry : ℕ × FieldRow → FieldEntry = λ numbered. entry_of (numbered.0 + 1) numbered.1 in
    get_or-map entry (enumerate_from k rows) i (0, no_field) no_entry (omega (arith, length-enumerate_from k rows))
    ∙ ap entry (get_or-enumerate_from k rows i (0, no_field) low)

entries_length : (k : ℕ) (rows : List FieldRow) → length (entries_from k rows) ≡ length rows
entries_length k rows = length-map (enumerate_from k rows) (λ numbered. entry_of (numbered.0 + 1) numbered.1) ∙ length-enumerate_from k rows

-- the first entry of a field stands where its first row stands
entries_first : (k j t f : ℕ) (rows : List FieldRow) → position_from (λ e. same_field (entry_key e) (field_key t f)) j (entries_from k rows) ≡ position_from (owns t f) j rows
entries_first k j t f [] = refl
entries_first k j t f (row ∷ rows) = ap (λ rest. cond (owns t f row) (Some j) rest) (entries_first (k + 1) (j + 1) t f rows)

told_same : (rows : List FieldRow) (t f : ℕ) (at : Option ℕ) → position_from (owns t f) 0 rows ≡ at
    → entry_told (first_with entry_key same_field (field_key t f) (entries_from 0 rows)) ≡ field_there rows at
told_same rows t f None is =
    ap entry_told (with_none entry_key same_field (field_key t f) (entries_from 0 rows) (entries_first 0 0 t f rows ∙ is))
told_same rows t f (Some i) is =
    let low = (first_at (owns t f) rows i no_field is).0 in
    ap entry_told (with_some entry_key same_field (field_key t f) (entries_from 0 rows) i no_entry (entries_first 0 0 t f rows ∙ is))
    ∙ ap (λ e. Ok e.definition) (entry_at 0 rows i low) ∙ ap (λ n. Ok (defined n (get_or rows i no_field).inner)) (omega arith)

-- what the entries answer is what the rows mean
pub kept_means : (types : List TypeRow) (rows : List FieldRow) → kept_field types (entries_from 0 rows) ≡ field_of types rows
kept_means types rows =
    λ i t f. cond (known_type types t) (told_same rows t f (position_from (owns t f) 0 rows) refl i) (Err NoSuchType)

last_none : (a b c : Bool) → cond a (Some NameMissing) (cond b (Some Repeated) (cond c None (Some OwnerUnfit))) ≡ None → c ≡ true
last_none true b c is = let z : ◌≡◌ {A = ℕ} 0 1 = cc in absurd (omega arith)
last_none false true c is = let z : ◌≡◌ {A = ℕ} 0 1 = cc in absurd (omega arith)
last_none false false true is = refl
last_none false false false is = let z : ◌≡◌ {A = ℕ} 0 1 = cc in absurd (omega arith)

kind_known : (types : List TypeRow) (at : Option ℕ) → owns_fields (kind_there types at) ≡ true → is_some at ≡ true
kind_known types None is = absurd (false≢true is)
kind_known types (Some i) is = refl

-- rows without a fault have known owners
pub owners_known : (types : List TypeRow) (rows : List FieldRow) → rows_fault types rows ≡ None → OwnersKnown types (entries_from 0 rows)
owners_known types rows none i low =
    let inside : i < length rows = omega (arith, entries_length 0 rows) in
    let row = get_or rows i no_field in
    let here : slice_get rows i ≡ Some row = slice_get-get_or rows i no_field inside in
    let fine : field_fault types (take i rows) row ≡ None =
    ap (option_and_then (field_fault types (take i rows))) (sym here) ∙ ap (fault_at (field_fault types) rows) (omega arith)
    ∙ no_fault InFields (fault_at (field_fault types) rows) 0 (length rows) (or_else_none (types_fault types) (fields_fault types rows) none).1 i inside in
    let owner : (get_or (entries_from 0 rows) i no_entry).key.owner ≡ row.owner = ap (λ e. e.key.owner) (entry_at 0 rows i inside) in
    ap (known_type types) owner ∙ kind_known types (position_from (named row.owner) 0 types) (last_none (eqb row.owner 0 || (eqb row.name 0 || eqb row.inner 0)) (is_some (position_from (owns row.owner row.name) 0 (take i rows))) (owns_fields (kind_of types row.owner)) fine)

accepted : (over : Bool) (rows slots : Option SchemaFault) → Ok tt ≡ verdict_of (cond over (Some OverLimit) (or_else rows slots)) → (over ≡ false) × (rows ≡ None)
accepted true rows slots is = let z : ◌≡◌ {A = ℕ} 0 1 = cc in absurd (omega arith)
accepted false None slots is = (refl, refl)
accepted false (Some fault) slots is = let z : ◌≡◌ {A = ℕ} 0 1 = cc in absurd (omega arith)

-- rows that were indexed keep their limits and have no fault
pub index_accepted : (types : List TypeRow) (rows : List FieldRow) (a b : List ℕ) → Ok tt ≡ verdict_of (index_fault types rows a b) → (over_limit types rows ≡ false) × (rows_fault types rows ≡ None)
index_accepted types rows a b is = accepted (over_limit types rows) (rows_fault types rows) (slots_fault a b) is

-- rows that are indexed in empty slots are refused for their own fault
zeros_of : (n : ℕ) → zeros (replicate n 0) ≡ true
zeros_of zero = refl
zeros_of (suc n) = zeros_of n

empty_of : (n : ℕ) (slots : List ℕ) → slots ≡ replicate n 0 → empty_index n slots ≡ true
empty_of n slots is = ap (empty_index n) is ∙ and_from _ _ (eq-eqb _ _ (length-replicate n 0)) (zeros_of n)

refused : (over empty : Bool) (rows : Option SchemaFault) (fault : SchemaFault) → empty ≡ true
    → Err fault ≡ verdict_of (cond over (Some OverLimit) (or_else rows (cond empty None (Some SlotsUnfit)))) → cond over (Some OverLimit) rows ≡ Some fault
refused true empty rows fault fit is = cc
refused false true None fault fit is = let z : ◌≡◌ {A = ℕ} 0 1 = cc in absurd (omega arith)
refused false true (Some f) fault fit is = cc
refused false false rows fault fit is = absurd (false≢true fit)

pub index_refused : (types : List TypeRow) (rows : List FieldRow) (a b : List ℕ) (fault : SchemaFault) → a ≡ replicate 2048 0 → b ≡ replicate 8192 0 → Err fault ≡ verdict_of (index_fault types rows a b) → schema_fault types rows ≡ Some fault
index_refused types rows a b fault here there is =
    refused (over_limit types rows) (empty_index 2048 a && empty_index 8192 b) (rows_fault types rows) fault
    (and_from _ _ (empty_of 2048 a here) (empty_of 8192 b there)) is

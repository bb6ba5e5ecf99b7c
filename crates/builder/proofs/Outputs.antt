-- Laws of the tables that are filled: nothing more, one error more, rows and errors behind others, a row over its set.
use Rattle.std.proofs.Common.{◌≡◌, ℕ, suc, ◌+◌, ◌<◌, ◌≤◌, List, [], ◌∷◌, ◌++◌, length, get_or, set, Some, None, Option, sym, refl, ap, ◌∙◌, add-zero, add-one, arith, length-append}
use Rattle.std.proofs.lemmas.List.{append-nil}
use Rattle.layout.specs.Forest.{Forest, none, row, size, flatten}
use Rattle.layout.proofs.Tables.{length-flatten}
use Rattle.selection_rules.specs.declared.stored.StoredRow.{StoredRow}
use Rattle.selection_rules.specs.declared.error.BuildError.{BuildError}
use Rattle.selection_rules.specs.Stored.{Stored, stored_row, stored_of}
use Rattle.selection_rules.specs.Errors.{Error, keys_of, keys_in, error_row, error_rows}
use Rattle.building_rules.proofs.Fits.{keys_join}
use Rattle.builder.specs.Filling.{put, Output, output, filled_to, with_set}
use Rattle.builder.specs.Ruling.{maybe}
use Rattle.builder.proofs.Puts.{put_nil, set-put, put-put, put_row, get_row}

-- equal parts make equal tables
pub same_output : {rows rows' : List StoredRow} {errors errors' : List BuildError} {keys keys' : List ℕ} {n n' k k' q q' : ℕ}
    → rows ≡ rows' → errors ≡ errors' → keys ≡ keys' → n ≡ n' → k ≡ k' → q ≡ q' → output rows errors keys (filled_to n k q) ≡ output rows' errors' keys' (filled_to n' k' q')
same_output a b c d e f = cc

pub nothing_more : (o : Output) → with_set o none [] ≡ o
nothing_more o =
    same_output (put_nil o.rows o.filled.rows) (put_nil o.errors o.filled.errors) (put_nil o.path_keys o.filled.path_keys)
    (omega arith) (omega arith) (omega arith)

pub one_error : (o : Output) (e : Error) → o.filled.errors < length o.errors
    → output o.rows (set o.errors o.filled.errors (error_row o.filled.path_keys e)) (put o.path_keys o.filled.path_keys (keys_of e)) (filled_to o.filled.rows (o.filled.errors + 1) (o.filled.path_keys + length (keys_of e)))
    ≡ with_set o none (e ∷ [])
one_error o e low =
    same_output (sym (put_nil o.rows o.filled.rows)) (set-put o.errors o.filled.errors _ low)
    (ap (put o.path_keys o.filled.path_keys) (sym (append-nil (keys_of e))))
    (omega arith) (omega arith) (ap (λ (l : List ℕ). o.filled.path_keys + length l) (sym (append-nil (keys_of e))))

-- errors behind others
pub rows_joined : (q : ℕ) (es fs : List Error) → error_rows q (es ++ fs) ≡ error_rows q es ++ error_rows (q + length (keys_in es)) fs
rows_joined q [] fs = ap (λ (k : ℕ). error_rows k fs) (omega arith)
rows_joined q (e ∷ es) fs =
    let far : (q + length (keys_of e)) + length (keys_in es) ≡ q + length (keys_in (e ∷ es)) = simp length-append (omega arith) in
    ap (λ (l : List BuildError). error_row q e ∷ l) (rows_joined (q + length (keys_of e)) es fs ∙ ap (λ (k : ℕ). error_rows (q + length (keys_of e)) es ++ error_rows k fs) far)

pub length_rows : (q : ℕ) (es : List Error) → length (error_rows q es) ≡ length es
length_rows q [] = refl
length_rows q (e ∷ es) = ap suc (length_rows (q + length (keys_of e)) es)

-- errors alone, and then rows and more errors
pub errors_then : (o : Output) (es : List Error) (f : Forest Stored) (fs : List Error)
    → o.filled.errors + length es ≤ length o.errors → o.filled.path_keys + length (keys_in es) ≤ length o.path_keys
    → with_set (with_set o none es) f fs ≡ with_set o f (es ++ fs)
errors_then o es f fs errors_fit keys_fit =
    let n = o.filled.rows in
    let k = o.filled.errors in
    let q = o.filled.path_keys in
    let no_rows : put o.rows n [] ≡ o.rows = put_nil o.rows n in
    let still : n + 0 ≡ n = add-zero n in
    let many = length_rows q es in
    same_output
    (ap (λ (l : List StoredRow). put l (n + 0) (flatten stored_row (n + 0) f)) no_rows ∙ ap (λ (i : ℕ). put o.rows i (flatten stored_row i f)) still)
    (put-put o.errors k (error_rows q es) (error_rows (q + length (keys_in es)) fs) (k + length es) (omega arith) errors_fit ∙ ap (put o.errors k) (sym (rows_joined q es fs)))
    (put-put o.path_keys q (keys_in es) (keys_in fs) (q + length (keys_in es)) refl keys_fit ∙ ap (put o.path_keys q) (sym (keys_join es fs)))
    (omega arith)
    (omega (arith, length-append es fs))
    (omega (arith, ap length (keys_join es fs), length-append (keys_in es) (keys_in fs)))

-- a row that is opened at the first free place
abbrev pub opened_with : Output → StoredRow → Output
opened_with o r =
    output (set o.rows o.filled.rows r) o.errors o.path_keys (filled_to (o.filled.rows + 1) o.filled.errors o.filled.path_keys)

-- the row at a place is written again, with the end of its set
abbrev pub closed_with : Output → ℕ → Stored → Output
closed_with b n a = output (set b.rows n (stored_row a b.filled.rows)) b.errors b.path_keys b.filled

-- a row is opened, its set is built, the row is closed, and more follows
pub row_then : (o : Output) (a : Stored) (below after : Forest Stored) (es fs : List Error)
    → o.filled.rows + (1 + size below) ≤ length o.rows
    → o.filled.errors + length es ≤ length o.errors → o.filled.path_keys + length (keys_in es) ≤ length o.path_keys
    → with_set (closed_with (with_set (opened_with o (stored_row a 0)) below es) o.filled.rows a) after fs ≡ with_set o (row a below after) (es ++ fs)
row_then o a below after es fs rows_fit errors_fit keys_fit =
    let n = o.filled.rows in
    let k = o.filled.errors in
    let q = o.filled.path_keys in
    let many = length_rows q es in
    let long = length-flatten stored_row (suc n) below in
    same_output
    (ap (λ (i : ℕ). put (set (put (set o.rows n (stored_row a 0)) i (flatten stored_row i below)) n (stored_row a (i + size below))) (i + size below) (flatten stored_row (i + size below) after)) (add-one n)
    ∙ put_row o.rows n (stored_row a 0) (stored_row a (suc n + size below)) (flatten stored_row (suc n) below) (flatten stored_row (suc n + size below) after) (suc n + size below) (omega arith) (omega arith) (omega arith))
    (put-put o.errors k (error_rows q es) (error_rows (q + length (keys_in es)) fs) (k + length es) (omega arith) errors_fit ∙ ap (put o.errors k) (sym (rows_joined q es fs)))
    (put-put o.path_keys q (keys_in es) (keys_in fs) (q + length (keys_in es)) refl keys_fit ∙ ap (put o.path_keys q) (sym (keys_join es fs)))
    (omega arith)
    (omega (arith, length-append es fs))
    (omega (arith, ap length (keys_join es fs), length-append (keys_in es) (keys_in fs)))

-- a stored row with another end
abbrev pub ended : StoredRow → ℕ → StoredRow
ended x e = stored_row (stored_of x) e

-- the row that was opened is still there
pub still_open : (o : Output) (r d : StoredRow) (below : Forest Stored) (es : List Error) → o.filled.rows < length o.rows
    → get_or (with_set (opened_with o r) below es).rows o.filled.rows d ≡ r
still_open o r d below es low =
    let n = o.filled.rows in
    ap (λ (i : ℕ). get_or (put (set o.rows n r) i (flatten stored_row i below)) n d) (add-one n) ∙ get_row o.rows n r d (flatten stored_row (suc n) below) low

-- what a ruling tells is its first error and its second
pub told_parts : {A : Type 0} (a b : Option A) → maybe a (maybe b []) ≡ maybe a [] ++ maybe b []
told_parts None b = refl
told_parts (Some x) b = refl

pub maybe_few : {A : Type 0} (a : Option A) → length (maybe a []) ≤ 1
maybe_few None = omega arith
maybe_few (Some x) = omega arith

-- One turn of a loop over rows: what the judgement of a row says of the fault at its place.
use Rattle.std.proofs.Common.{◌≡◌, ℕ, ◌<◌, Bool, List, length, take, get_or, is_some, Some, Option, Result, slice_get, sym, ap, ◌∙◌}
use Rattle.std.specs.Option.{option_and_then}
use Rattle.std.proofs.lemmas.Option.{slice_get-get_or}
use Rattle.refusal.specs.Firsts.{verdict_of}
use Rattle.table_schema.specs.declared.fault.RowFault.{RowFault}
use Rattle.table_schema.specs.Found.{place_with}
use Rattle.table_schema.specs.Verdict.{fault_at}

-- a row that is judged behind any rows, one of which has its key exactly where `came` says so, is judged behind those
-- before it, where `came` says whether one of them has its key
pub judged : {R K : Type 0} (keyed : R → K) (equal : K → K → Bool) (wrong : List R → R → Option RowFault) (rows : List R) (i : ℕ) (row : R) (key : K)
    (came : Bool) (verdict : Result Unit RowFault) → i < length rows → row ≡ get_or rows i row → key ≡ keyed row
    → came ≡ is_some (place_with keyed equal key (take i rows))
    → ((before : List R) → came ≡ is_some (place_with keyed equal (keyed row) before) → verdict ≡ verdict_of (wrong before row))
    → verdict ≡ verdict_of (fault_at wrong rows i)
judged keyed equal wrong rows i row key came verdict low read same seen told =
    let here : slice_get rows i ≡ Some row = slice_get-get_or rows i row low ∙ ap Some (sym read) in
    told (take i rows) (seen ∙ ap (λ k. is_some (place_with keyed equal k (take i rows))) same)
    ∙ ap (λ r. verdict_of (option_and_then (wrong (take i rows)) r)) (sym here)

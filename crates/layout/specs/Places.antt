-- Which row of a range does not fit, by what the layout sees of the rows.
use Rattle.std.specs.Prelude.{ℕ, zero, suc, ◌+◌, ◌-◌, Bool, false, cond, not, ◌&&◌, ◌||◌, List, Some, None, Option, ◌==◌, nat_le, nat_lt, slice_index_or}
use Rattle.refusal.specs.Firsts.{first_fault}
use Rattle.refusal.specs.declared.Reason.{Reason}
use Rattle.refusal.specs.declared.Reason.TheVariants as reason
use Rattle.layout.specs.declared.row.RowFault.{RowFault}
use Rattle.layout.specs.declared.row.RowFault.TheVariants.{NameMissing, Broken, TooDeep}
use Rattle.layout.specs.declared.row.RowView.{RowView}
use Rattle.layout.specs.declared.row.Misfit.{Misfit}

-- why a table is refused that has a row with this fault
abbrev pub row_reason : RowFault → Reason
row_reason NameMissing = reason.NameMissing
row_reason Broken = reason.Broken
row_reason TooDeep = reason.TooDeep

abbrev pub no_view : RowView
no_view = record { end = 0; leaf = false; unnamed = false; broken = false }

-- the end of the row at a place
abbrev pub end_at : List RowView → ℕ → ℕ
end_at views j = (slice_index_or views j no_view).end

-- of the n rows from `first` on, how many are still open at the place k: their ends lie behind it
abbrev pub open_at : List RowView → ℕ → ℕ → ℕ → ℕ
open_at views k first zero = 0
open_at views k first (suc n) = cond (nat_lt k (end_at views (first + n))) 1 0 + open_at views k first n

-- the end of what encloses the place k: the nearest of the n rows from `first` on that is still open, else the range
abbrev pub enclosing_end : List RowView → ℕ → ℕ → ℕ → ℕ → ℕ
enclosing_end views k first zero end = end
enclosing_end views k first (suc n) end =
    cond (nat_lt k (end_at views (first + n))) (end_at views (first + n)) (enclosing_end views k first n end)

-- whether the row at k breaks the layout: by a member, by an end that is not above k or lies behind the end of what
-- encloses it, or by rows beneath a row that has none
abbrev pub breaks : RowView → ℕ → ℕ → Bool
breaks view k bound =
    view.broken || (nat_le view.end k || (nat_lt bound view.end || (view.leaf && not (view.end == k + 1))))

-- the fault of a row, the smaller number first
abbrev pub own_fault : RowView → ℕ → ℕ → Bool → Option RowFault
own_fault view k bound deep =
    cond view.unnamed (Some NameMissing) (cond (breaks view k bound) (Some Broken) (cond deep (Some TooDeep) None))

-- the fault of the row k in the range from `first` up to `end`, where so many levels are left
abbrev pub fault_in : List RowView → ℕ → ℕ → ℕ → ℕ → Option RowFault
fault_in views first end room k =
    own_fault (slice_index_or views k no_view) k (enclosing_end views k first (k - first) end) (nat_le room (open_at views k first (k - first)))

abbrev pub misfit : RowFault → ℕ → Misfit
misfit fault row = record { fault = fault; row = row }

-- the first row of a range that does not fit
abbrev pub first_misfit : List RowView → ℕ → ℕ → ℕ → Option Misfit
first_misfit views first end room = first_fault misfit (fault_in views first end room) first (end - first)

-- The case that a number stands for, as the answer of a conversion.
use Rattle.std.specs.Prelude.{ℕ, Some, None, Ok, Err, Option, Result}
use Rattle.refusal.specs.declared.UnknownNumber.{UnknownNumber}

-- the case, or the number that stands for none
abbrev pub case_or_unknown : {K : Type 0} → ℕ → Option K → Result K UnknownNumber
case_or_unknown n None = Err (record { 0 = n })
case_or_unknown n (Some case) = Ok case

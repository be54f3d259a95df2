-- Sums that stop at 2^64 - 1.
use Rattle.std.specs.Prelude.{ℕ, ◌+◌, ◌-◌, ◌^◌, min, List}
use Rattle.std.specs.List.{sum_by}
use Rattle.kh_term.specs.declared.term.Term.{Term}
use Rattle.kh_code.specs.Limits.{literal_size}

abbrev pub capped : ℕ → ℕ
capped n = min n (2 ^ 64 - 1)

-- the size of a literal, or one more than any literal of a listing has
abbrev pub counted : Term → ℕ
counted t = min (literal_size t) 1048577

-- these together
abbrev pub all_counted : List Term → ℕ
all_counted = sum_by counted

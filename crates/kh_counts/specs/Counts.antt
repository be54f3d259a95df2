-- How a count of 64 bits rises.
use Rattle.std.specs.Prelude.{ℕ, ◌^◌, ◌-◌, ◌<◌}

-- the count rose; one that stands at 2^64 - 1 has no room to
abbrev pub Rose : ℕ → ℕ → Type 0
Rose old new = old < 2 ^ 64 - 1 → old < new

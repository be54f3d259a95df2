-- How many places the chunks have.
use Rattle.std.specs.Prelude.{ℕ, zero, suc, ◌+◌, ◌*◌, ◌^◌, min}
use Rattle.kh_arena.specs.declared.arena.TheConstants.{FIRST_ITEMS, DOUBLINGS}

-- the places of chunk k: each next chunk has twice as many, up to the last doubling
unfoldable pub chunk_len : ℕ → ℕ
chunk_len k = FIRST_ITEMS * 2 ^ min k DOUBLINGS

-- the places of the first k chunks
abbrev pub places_before : ℕ → ℕ
places_before zero = 0
places_before (suc k) = places_before k + chunk_len k

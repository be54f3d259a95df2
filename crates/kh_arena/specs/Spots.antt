-- Where the places of a chunk lie in memory.
use Rattle.std.specs.Prelude.{ℕ, zero, suc, ◌+◌, ◌*◌, List, [], ◌∷◌}
use denote.RawPtr.{Ptr, block_of, count_of}

-- a place in memory: the block and the byte where its chunk begins, and its number there
abbrev pub Spot : Type 0
Spot = (ℕ × ℕ) × ℕ

-- place i of the chunk that begins at p
unfoldable pub spot : Ptr → ℕ → Spot
spot p i = ((block_of p, count_of p), i)

-- the block and the byte of a spot, where an item has s bytes
unfoldable pub address : ℕ → Spot → ℕ × ℕ
address s p = (p.0.0, p.1 * s + p.0.1)

-- n spots side by side, from place i on
unfoldable pub spots_from : Ptr → ℕ → ℕ → List Spot
spots_from p i zero = []
spots_from p i (suc n) = spot p i ∷ spots_from p (suc i) n

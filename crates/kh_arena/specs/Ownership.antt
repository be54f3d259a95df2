-- What a chunk owns and lends, at any item type R. The memory of a place is owned once, and so is the right to free the block.
use Rattle.std.specs.Prelude.{ℕ, ◌*◌, ◌^◌, List, [], ◌∷◌, Some, None}
use Rattle.std.specs.Mem.{type_size}
use Rattle.std.specs.declared.option.Option.{Option}
use lib.ListN.{replicate}
use base.Fraction.{full_share}
use base.Fml.{Lft, Fml, ftrue, fsep, flt}
use mir.Syntax.{Ty, ty_array}
use mir.Raw.{raw}
use denote.RattleType.{RattleType}
use denote.Memory.{lone}
use denote.RawPtr.{Ptr, lies_at, room_for, in_block, ◌+ₚ◌}
use denote.Sharing.{nothing, said, beside}
use denote.Struct.Lending.{lent_at}

-- a place owns its item, or room for one
abbrev pub place_owns : (R : RattleType) → Ptr → Option R.Denot → Fml
place_owns R p (Some x) = lies_at R full_share p x
place_owns R p None = room_for (raw (lone R.mir)) p

-- places side by side, from p on
abbrev pub places_own : (R : RattleType) → Ptr → List (Option R.Denot) → Fml
places_own R p [] = ftrue
places_own R p (s ∷ ss) = fsep (place_owns R p s) (places_own R (p +ₚ type_size R) ss)

-- n places of which none holds an item
abbrev pub empty_places : {X : Type 0} → ℕ → List (Option X)
empty_places n = replicate n None

-- the right to give the block of n places at p back
abbrev pub block_right : (Ty → Ptr → Fml) → RattleType → Ptr → ℕ → Fml
block_right t R p n = t (raw (ty_array (lone R.mir) n)) p

-- what a chunk of n places owns
abbrev pub chunk_owns : (Ty → Ptr → Fml) → (R : RattleType) → Ptr → ℕ → List (Option R.Denot) → Fml
chunk_owns t R p n ss = fsep (flt (n * type_size R) (2 ^ 63)) (in_block p (fsep (places_own R p ss) (block_right t R p n)))

-- a `&` to the item of a place, if it holds one
abbrev pub place_lends : (R : RattleType) → Ptr → Option R.Denot → Lft → Fml
place_lends R p (Some x) = lent_at R p x
place_lends R p None = nothing

-- and to those of places side by side
abbrev pub places_lend : (R : RattleType) → Ptr → List (Option R.Denot) → Lft → Fml
places_lend R p [] = nothing
places_lend R p (s ∷ ss) = beside (place_lends R p s) (places_lend R (p +ₚ type_size R) ss)

-- what a `&` to a chunk holds: the bound on its size, and a `&` to each item
abbrev pub chunk_lends : (R : RattleType) → Ptr → ℕ → List (Option R.Denot) → Lft → Fml
chunk_lends R p n ss = beside (said (flt (n * type_size R) (2 ^ 63))) (places_lend R p ss)

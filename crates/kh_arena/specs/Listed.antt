-- What an arena's chunks hold, and what contracts see of an arena.
use Rattle.std.specs.Prelude.{◌≡◌, ℕ, ◌+◌, ◌-◌, ◌^◌, ◌<◌, ◌≤◌, List, length, take, min, slice_index_or}
use Rattle.std.specs.List.{flat_map, filter_map}
use Rattle.std.specs.declared.option.Option.{Option}
use Rattle.kh_arena.specs.declared.chunk.Chunk.{Chunk}
use Rattle.kh_arena.specs.Sizes.{chunk_len, places_before}
use Rattle.kh_arena.specs.Spots.{Spot, spots_from}

-- the number of items that an arena can hold
abbrev pub most_items : ℕ
most_items = 2 ^ 32 - 1

-- the items that the first n places hold
abbrev pub first_items : {X : Type 0} → ℕ → List (Option X) → List X
first_items n ss = filter_map (λ s. s) (take n ss)

-- What contracts see of an arena: its items, where each lies, and how many more have their place already
abbrev pub View : Type 0 → Type 0
View X = (List X × List Spot) × ℕ

module _ {X : Type 0} where
  abbrev pub items : View X → List X
  items v = v.0.0

  abbrev pub spots : View X → List Spot
  spots v = v.0.1

  abbrev pub spare : View X → ℕ
  spare v = v.1

module _ {X A : Type 0} where
  -- the places of the chunks, in order
  abbrev pub places_of : List (Chunk X A) → List (Option X)
  places_of = flat_map (λ c. c.places)

  -- and where they lie
  abbrev pub spots_of : List (Chunk X A) → List Spot
  spots_of = flat_map (λ c. spots_from c.at 0 c.len)

  -- each chunk has its length, where k chunks stand before them
  pub record Sized (k : ℕ) (cs : List (Chunk X A)) : Type 0 where
    pub each : (i : ℕ) (d : Chunk X A) → i < length cs → (slice_index_or cs i d).len ≡ chunk_len (k + i)

  -- the first n places hold items, each chunk has its length, and r is the number of places, as far as items can fill them
  pub record IsArena (n r : ℕ) (cs : List (Chunk X A)) : Type 0 where
    pub full : length (first_items n (places_of cs)) ≡ n
    pub sized : Sized 0 cs
    pub room : r ≡ min (places_before (length cs)) most_items
    pub few : n ≤ r

  -- the view of an arena whose first n places hold items
  abbrev pub view_of : ℕ → List (Chunk X A) → View X
  view_of n cs = ((first_items n (places_of cs), take n (spots_of cs)), min (length (places_of cs)) most_items - n)

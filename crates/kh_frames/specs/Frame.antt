-- Registers, slots and catches on their own.
use Rattle.std.specs.Prelude.{ℕ, ◌+◌, ◌-◌, ◌==◌, Bool, true, false, List, [], ◌∷◌, ◌++◌, length, map, replicate, slice_set, slice_index_or, Some, None}
use Rattle.std.specs.declared.option.Option.{Option}
use Rattle.kh_frames.specs.declared.state.Slot.{Slot}
use Rattle.kh_frames.specs.declared.state.Slot.TheVariants.{Absent, Holds, Marked}

module _ {V : Type 0} where
  -- the value of an x register, if it was written
  abbrev pub register : List (Option V) → ℕ → Option V
  register xs n = slice_index_or xs n None

  -- the registers up to n at least; those that weren't there are absent
  abbrev pub grown : List (Option V) → ℕ → List (Option V)
  grown xs n = xs ++ replicate (n + 1 - length xs) None

  -- the registers with a value in register n
  abbrev pub written : List (Option V) → ℕ → V → List (Option V)
  written xs n v = slice_set (grown xs n) n (Some v)

  -- the slots of a frame; none without a frame
  abbrev pub slots : Option (List (Slot V)) → List (Slot V)
  slots None = []
  slots (Some ss) = ss

  -- the value that a slot holds
  abbrev pub held : Option (Slot V) → Option V
  held (Some (Holds v)) = Some v
  held _ = None

  -- whether this is a slot without a mark
  abbrev pub is_free : Option (Slot V) → Bool
  is_free None = false
  is_free (Some Absent) = true
  is_free (Some (Holds v)) = true
  is_free (Some Marked) = false

  -- whether a slot is marked
  abbrev pub is_marked : Slot V → Bool
  is_marked Marked = true
  is_marked _ = false

  -- whether there is a marked slot
  abbrev pub is_mark : Option (Slot V) → Bool
  is_mark None = false
  is_mark (Some s) = is_marked s

  -- whether there is no frame; whether there is one of n slots
  abbrev pub is_unframed : Option (List (Slot V)) → Bool
  is_unframed None = true
  is_unframed (Some ss) = false

  abbrev pub has_slots : Option (List (Slot V)) → ℕ → Bool
  has_slots None n = false
  has_slots (Some ss) n = length ss == n

  -- the frame with this in slot i
  abbrev pub with_slot : Option (List (Slot V)) → ℕ → Slot V → Option (List (Slot V))
  with_slot None i s = None
  with_slot (Some ss) i s = Some (slice_set ss i s)

module _ {P : Type 0} where
  -- whether there is no catch
  abbrev pub is_empty : List (ℕ × P) → Bool
  is_empty [] = true
  is_empty (c ∷ cs) = false

  -- the catches after n slots before theirs are gone
  abbrev pub lowered : ℕ → List (ℕ × P) → List (ℕ × P)
  lowered n = map (λ c. (c.0 - n, c.1))

  -- the slot of the newest catch, if there is one; whether it is this one
  abbrev pub newest_slot : List (ℕ × P) → Option ℕ
  newest_slot [] = None
  newest_slot ((slot, to) ∷ cs) = Some slot

  abbrev pub is_newest : ℕ → List (ℕ × P) → Bool
  is_newest slot [] = false
  is_newest slot ((s, to) ∷ cs) = s == slot

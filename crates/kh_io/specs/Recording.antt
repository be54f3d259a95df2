-- A host in memory as its calls so far: what it tells is made from them.
use Rattle.std.specs.Prelude.{◌≡◌, ℕ, ◌≤◌, Bool, true, false, not, List, [], ◌∷◌, ◌++◌, length, take, drop, sum_by, flat_map, Some}
use Rattle.kh_io.specs.declared.files.Files.{Files}
use Rattle.kh_io.specs.Call.{Call, Take, Give, WriteAt, Cut, answered_len}
use Rattle.kh_io.specs.JournalState.{Fits}
use Rattle.kh_io.specs.Disk.{AreImages}
use Rattle.kh_io.specs.FileState.{state_after, IsImage}

pub record Recording : Type 0 where
  -- the whole input
  pub input : List ℕ
  -- the files before the first call
  pub first : Files
  -- the calls so far
  pub calls : List Call
  -- the room for calls
  pub room : ℕ

-- how many bytes of the input a call takes off
abbrev pub takes : Call → ℕ
takes (Take asked bytes) = answered_len bytes
takes _ = 0

-- the bytes that a call adds to the sink
abbrev pub gives : Call → List ℕ
gives (Give piece (Some n)) = take n piece
gives _ = []

-- the input that is left after these calls
abbrev pub left_after : List ℕ → List Call → List ℕ
left_after input calls = drop (sum_by takes calls) input

-- what the sink has taken in these calls
abbrev pub given_in : List Call → List ℕ
given_in calls = flat_map gives calls

-- what a read gives of a file after these calls
abbrev pub seen_after : Files → List Call → ℕ → List ℕ
seen_after first calls file = (state_after file first calls).now

-- what a crash after these calls may leave of a file
abbrev pub image_after : Files → List Call → ℕ → List ℕ → Type 0
image_after first calls file = IsImage (state_after file first calls)

-- what a crash after the first t of these calls or later may have left, with its stamp
abbrev pub left_since : Files → List Call → ℕ → Files → ℕ → Type 0
left_since first calls t files stamp =
    (k : ℕ) × (t ≤ k) × (k ≤ length calls) × AreImages (image_after first (take k calls)) files × (stamp ≡ length (given_in (take k calls)))

-- with one more call
abbrev pub noted : Recording → Call → Recording
noted r call = record r { calls = r.calls ++ call ∷ [] }

-- one more call that moves n bytes is within the room
abbrev pub HasRoom : Recording → ℕ → Type 0
HasRoom r n = Fits r.calls r.room n

-- a call that changes nothing that is read or given: one that asks, one that failed, and a sync
abbrev pub is_idle : Call → Bool
is_idle (Take asked (Some bytes)) = false
is_idle (Give piece (Some n)) = false
is_idle (WriteAt file at bytes done) = not done
is_idle (Cut file len done) = not done
is_idle _ = true

-- The calls of a host, as its journal lists them.
use Rattle.std.specs.Prelude.{ℕ, ◌+◌, ◌*◌, Bool, List, length, sum_by, Option, Some, None, Result, Ok, Err, take}
use Rattle.kh_io.specs.declared.failed.Failed.{Failed}

-- a call of a host with its arguments and its answer, which is `None` or `false` where the call failed
pub data Call : Type 0 where
  -- the buffer's length, and the bytes that were given
  Take : ℕ → Option (List ℕ) → Call
  -- the piece, and how many of its first bytes were taken
  Give : List ℕ → Option ℕ → Call
  -- the file, and its length
  Len : ℕ → Option ℕ → Call
  -- the file, the place, the buffer's length, and the bytes that were read
  ReadAt : ℕ → ℕ → ℕ → Option (List ℕ) → Call
  -- the file, the place and the bytes, and whether they were written
  WriteAt : ℕ → ℕ → List ℕ → Bool → Call
  -- the file and the length, and whether it was cut
  Cut : ℕ → ℕ → Bool → Call
  -- the file, and whether it was synced
  Sync : ℕ → Bool → Call

-- the one error of a call
abbrev pub failed : Failed
failed = record {}

-- the answer of a call, as the journal has it
abbrev pub answer : {A : Type 0} → Result A Failed → Option A
answer (Ok a) = Some a
answer (Err _) = None

-- the bytes that a call has put at the front of a buffer, as the journal has them
abbrev pub front_given : Result ℕ Failed → List ℕ → Option (List ℕ)
front_given (Ok n) buffer = Some (take n buffer)
front_given (Err _) _ = None

-- the length of the bytes of an answer
abbrev pub answered_len : Option (List ℕ) → ℕ
answered_len None = 0
answered_len (Some bytes) = length bytes

-- how many bytes a call moves: those that it is handed, or those that it answers
abbrev pub moved : Call → ℕ
moved (Take asked bytes) = answered_len bytes
moved (Give piece taken) = length piece
moved (Len file len) = 0
moved (ReadAt file at asked bytes) = answered_len bytes
moved (WriteAt file at bytes done) = length bytes
moved (Cut file len done) = 0
moved (Sync file done) = 0

-- what calls take of a room: 64 for each, and one for each byte that they move
abbrev pub cost : List Call → ℕ
cost calls = 64 * length calls + sum_by moved calls

-- a call of the disk
abbrev pub IsOfDisk : Call → Type 0
IsOfDisk (Take asked bytes) = ⊥
IsOfDisk (Give piece taken) = ⊥
IsOfDisk (Len file len) = Unit {0}
IsOfDisk (ReadAt file at asked bytes) = Unit {0}
IsOfDisk (WriteAt file at bytes done) = Unit {0}
IsOfDisk (Cut file len done) = Unit {0}
IsOfDisk (Sync file done) = Unit {0}

-- a call that only asks for a length, or reads
abbrev pub IsAsking : Call → Type 0
IsAsking (Take asked bytes) = ⊥
IsAsking (Give piece taken) = ⊥
IsAsking (Len file len) = Unit {0}
IsAsking (ReadAt file at asked bytes) = Unit {0}
IsAsking (WriteAt file at bytes done) = ⊥
IsAsking (Cut file len done) = ⊥
IsAsking (Sync file done) = ⊥

-- What the calls of a disk do to its files, and what a crash leaves of them.
use Rattle.std.specs.Prelude.{◌≡◌, ℕ, zero, suc, ◌+◌, ◌-◌, ◌^◌, ◌<◌, ◌≤◌, max, min, List, ◌++◌, length, take, drop, Option, Some, IsSome, IfSome}
use Rattle.kh_io.specs.declared.files.Files.{Files}
use Rattle.kh_io.specs.Told.{Kept}

-- the bytes of a file by its number: the snapshot and the log of slot 0, and those of slot 1
abbrev pub file_of : Files → ℕ → List ℕ
file_of files zero = files.s0
file_of files (suc zero) = files.l0
file_of files (suc (suc zero)) = files.s1
file_of files (suc (suc (suc _))) = files.l1

-- these files are what a crash may leave, each by itself
abbrev pub AreImages : (ℕ → List ℕ → Type 0) → Files → Type 0
AreImages image files = (file : ℕ) → file < 4 → image file (file_of files file)

-- the files are told
abbrev pub TellsFiles : (ℕ → Option (List ℕ)) → Type 0
TellsFiles seen = (file : ℕ) → file < 4 → IsSome (seen file)

-- the bytes with these in the place of those that stand at a place, and past the end
abbrev pub put : List ℕ → ℕ → List ℕ → List ℕ
put old at bytes = take at old ++ bytes ++ drop (at + length bytes) old

-- After a write of n bytes at a place, of which any part was done: any bytes in the range, the same before it and behind it,
-- and a length from the old one to one that holds the range.
pub record Torn (at n : ℕ) (old new : List ℕ) : Type 0 where
  pub before : take at new ≡ take at old
  pub behind : drop (at + n) new ≡ drop (at + n) old
  pub no_shorter : length old ≤ length new
  pub no_longer : length new ≤ max (length old) (at + n)

-- After a cut to a length that isn't safe yet: any length down to it, and any bytes past it.
pub record CutBack (n : ℕ) (old new : List ℕ) : Type 0 where
  pub front : take n new ≡ take n old
  pub no_longer : length new ≤ length old

-- after a cut to a length that failed: a front of the bytes, down to that length
pub record CutPart (n : ℕ) (old new : List ℕ) : Type 0 where
  pub front : new ≡ take (length new) old
  pub no_shorter : n ≤ length new
  pub no_longer : length new ≤ length old

-- what a crash may leave of a file is what it might have left before, after a step; where the step was done and the file is told, all of that
pub record Follows (told : Type 0) (step : List ℕ → List ℕ → Type 0) (old new : List ℕ → Type 0) : Type 0 where
  pub only : (bytes : List ℕ) → new bytes → (was : List ℕ) × old was × step was bytes
  pub all : told → (was bytes : List ℕ) → old was → step was bytes → new bytes

-- a file stays: what a read gives of it, and what a crash may leave of it
pub record Stays (seen seen' : Option (List ℕ)) (image image' : List ℕ → Type 0) : Type 0 where
  pub read : Kept seen seen'
  pub only : (bytes : List ℕ) → image' bytes → image bytes
  pub all : IsSome seen' → (bytes : List ℕ) → image bytes → image' bytes

-- a crash leaves of a file what a read gives
abbrev pub IsSafe : Option (List ℕ) → (List ℕ → Type 0) → Type 0
IsSafe seen image = (bytes : List ℕ) → image bytes → seen ≡ Some bytes

-- the n bytes at the front of a buffer are those of the file at a place, fewer than the buffer holds only at the file's end
pub record IsReadAt (file : List ℕ) (at n : ℕ) (buffer : List ℕ) : Type 0 where
  pub count : n ≡ min (length buffer) (length file - at)
  pub bytes : take n buffer ≡ take n (drop at file)

-- so many bytes may be written at this place of a file: it is no further than the end, where the file is told, and not too far
pub record MayWrite (seen : Option (List ℕ)) (at n : ℕ) : Type 0 where
  pub start : IfSome seen (λ bytes. at ≤ length bytes)
  pub end : at + n ≤ 2 ^ 62

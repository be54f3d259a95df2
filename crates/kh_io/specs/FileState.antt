-- A file whose calls are known: what a read gives of it, and what a crash may leave of it.
use Rattle.std.specs.Prelude.{◌≡◌, ℕ, ◌+◌, ◌≤◌, max, min, Bool, ◌&&◌, ◌||◌, if◌then◌else◌, ◌==◌, nat_lt, nat_le, List, [], ◌∷◌, length, take, fold, slice_index, IsFalse}
use Rattle.std.specs.List.{list_any}
use Rattle.kh_io.specs.declared.files.Files.{Files}
use Rattle.kh_io.specs.Call.{Call, Take, Give, Len, ReadAt, WriteAt, Cut, Sync}
use Rattle.kh_io.specs.Disk.{file_of, put}

pub record FileState : Type 0 where
  -- what a read gives
  pub now : List ℕ
  -- the least and the greatest length since the last sync
  pub least : ℕ
  pub most : ℕ
  -- the ranges that were written since the last sync, each as its place and its length
  pub loose : List (ℕ × ℕ)

-- a file of which a crash leaves what a read gives
abbrev pub synced : List ℕ → FileState
synced bytes = record { now = bytes; least = length bytes; most = length bytes; loose = [] }

-- after a write of bytes at a place; one that failed has changed nothing that a read gives, and may have written any part of the range
abbrev pub written : FileState → ℕ → List ℕ → Bool → FileState
written s at bytes done = record {
  now = if done then put s.now at bytes else s.now;
  least = s.least;
  most = max s.most (at + length bytes);
  loose = (at, length bytes) ∷ s.loose;
}

-- after a cut to a length; one that failed has changed nothing that a read gives, and may have left any length between
abbrev pub cut_to : FileState → ℕ → Bool → FileState
cut_to s len done = record {
  now = if done then take len s.now else s.now;
  least = min s.least len;
  most = s.most;
  loose = s.loose;
}

-- the file of this number after a call
abbrev pub after : ℕ → FileState → Call → FileState
after file s (WriteAt this at bytes done) = if this == file then written s at bytes done else s
after file s (Cut this len done) = if this == file then cut_to s len done else s
after file s (Sync this done) = if (this == file) && done then synced s.now else s
after file s (Take asked bytes) = s
after file s (Give piece taken) = s
after file s (Len this len) = s
after file s (ReadAt this at asked bytes) = s

-- the file of this number after these calls, of files that were safe before them
abbrev pub state_after : ℕ → Files → List Call → FileState
state_after file first calls = fold (after file) (synced (file_of first file)) calls

-- a place lies in a range
abbrev pub is_within : ℕ → ℕ × ℕ → Bool
is_within i range = nat_le range.0 i && nat_lt i (range.0 + range.1)

-- a byte that isn't yet safe: it was written since the last sync, or stands past the least length
abbrev pub is_unsafe : FileState → ℕ → Bool
is_unsafe s i = nat_le s.least i || list_any (is_within i) s.loose

-- What a crash may leave of a file: a length between the least and the greatest since the last sync, at each byte that isn't
-- yet safe anything, and at each other one what stands there.
pub record IsImage (s : FileState) (bytes : List ℕ) : Type 0 where
  pub no_shorter : s.least ≤ length bytes
  pub no_longer : length bytes ≤ s.most
  pub others : (i : ℕ) → IsFalse (is_unsafe s i) → slice_index bytes i ≡ slice_index s.now i

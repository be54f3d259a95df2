-- A file as it stood after some of the calls.
use Rattle.std.specs.Prelude.{◌≡◌, ℕ, ◌<◌, ◌||◌, nat_le, Bool, List, length, Option, if◌then◌else◌, slice_index, unwrap_or}
use Rattle.std.specs.List.{list_any}
use Rattle.kh_io.specs.declared.files.Files.{Files}
use Rattle.kh_io.specs.Call.{Call}
use Rattle.kh_io.specs.Disk.{file_of}
use Rattle.kh_io.specs.FileState.{FileState, state_after, is_within, is_unsafe}

pub record Replayed : Type 0 where
  -- what a read gave
  pub bytes : List ℕ
  -- the least length since the last sync
  pub least : ℕ
  -- the ranges that were written since the last sync
  pub loose : List (ℕ × ℕ)

-- it is this state of the file, without the greatest length
pub record Shows (s : FileState) (r : Replayed) : Type 0 where
  pub now : r.bytes ≡ s.now
  pub least : r.least ≡ s.least
  pub loose : r.loose ≡ s.loose

-- a byte that isn't yet safe, by the least length and the ranges
abbrev pub is_loose_at : ℕ → List (ℕ × ℕ) → ℕ → Bool
is_loose_at least loose i = nat_le least i || list_any (is_within i) loose

-- The crash image of a file with the length that a read finds, in which each byte that isn't yet safe is as written,
-- or this byte.
pub record IsFilled (s : FileState) (fill : Option ℕ) (bytes : List ℕ) : Type 0 where
  pub len : length bytes ≡ length s.now
  pub each : (i : ℕ) → i < length bytes
      → slice_index bytes i ≡ (if is_unsafe s i then unwrap_or fill (slice_index s.now i) else slice_index s.now i)

-- the files after these calls, each so filled
abbrev pub AreFilled : Files → List Call → Option ℕ → Files → Type 0
AreFilled first calls fill files = (file : ℕ) → file < 4 → IsFilled (state_after file first calls) fill (file_of files file)

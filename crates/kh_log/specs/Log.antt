-- A log that is open: where it stands in its file, and what an append leaves.
use Rattle.std.specs.Prelude.{◌≡◌, ◌⊎◌, ℕ, ◌+◌, ◌<◌, ◌≤◌, List, [], ◌∷◌, ◌++◌, length, take, slice_get, Option, Some, None, option_map, IfSome}
use Rattle.kh_io.specs.Disk.{put, Torn, IsSafe}
use Rattle.kh_io.specs.View.{View}
use Rattle.kh_log.specs.Records.{open_gate, log_of, Content, content_of, records_of, lacking_in, span, IsClosedAt}

-- where a log stands in its file
pub record Place : Type 0 where
  pub file : ℕ
  -- how many records it has, and how many of them were read
  pub records : ℕ
  pub read : ℕ
  -- the places of the gate of the next record, and of the last gate
  pub next : ℕ
  pub last : ℕ

-- these bytes are the log that stands so: what its calls found or left
pub record Holds (log : Place) (bytes : List ℕ) : Type 0 where
  pub none_lacks : lacking_in bytes ≡ None
  pub records : log.records ≡ length (records_of bytes)
  pub last : log.last ≡ span (records_of bytes)
  pub read : log.read ≤ log.records
  pub next : log.next ≡ span (take log.read (records_of bytes))

-- the place after these records were appended
abbrev pub moved : Place → List (List ℕ) → Place
moved log rs = record {
  file = log.file;
  records = log.records + length rs;
  read = log.read + length rs;
  next = log.last + span rs;
  last = log.last + span rs;
}

-- the place after this record was read
abbrev pub passed : Place → List ℕ → Place
passed log r = record {
  file = log.file;
  records = log.records;
  read = log.read + 1;
  next = log.next + 5 + length r;
  last = log.last;
}

-- the next record of a log has so many bytes
abbrev pub HasNext : Place → ℕ → List ℕ → Type 0
HasNext log n bytes = option_map length (slice_get (records_of bytes) log.read) ≡ Some n

-- a record of so many bytes is left to be read: it ends at the last gate or before
pub record MayRead (log : Place) (n : ℕ) : Type 0 where
  pub left : log.read < log.records
  pub within : log.next + 5 + n ≤ log.last

-- the log of a file that holds these records and no more, all of which count as read
abbrev pub begun_at : ℕ → List (List ℕ) → Place
begun_at file rs = record { file = file; records = length rs; read = length rs; next = span rs; last = span rs }

-- each image of a file that is told
abbrev pub ImagesAre : Option (List ℕ) → (List ℕ → Type 0) → (List ℕ → Type 0) → Type 0
ImagesAre seen image P = IfSome seen (λ _. (bytes : List ℕ) → image bytes → P bytes)

-- exactly these records, and none that lacks bytes
abbrev pub whole : List (List ℕ) → Content
whole rs = record { records = rs; lacking = None }

-- exactly these records, and behind them a closed gate at this place
pub record EndsAt (last : ℕ) (rs : List (List ℕ)) (bytes : List ℕ) : Type 0 where
  pub content : content_of bytes ≡ whole rs
  pub place : last ≡ span rs
  pub gate : IsClosedAt last bytes

-- The bytes of a log with these records behind those that it had: they stand from its last gate on, which is at this place, and behind them
-- stands `00`. No other byte is changed.
abbrev pub with_records : ℕ → List (List ℕ) → List ℕ → List ℕ
with_records last [] log = log
with_records last (r ∷ rs) log = put log last (log_of (r ∷ rs))

-- exactly these records, or these and more behind them, and behind either a closed gate
abbrev pub IsBeforeOrAfter : (rs more : List (List ℕ)) → List ℕ → Type 0
IsBeforeOrAfter rs more bytes = EndsAt (span rs) rs bytes ⊎ EndsAt (span (rs ++ more)) (rs ++ more) bytes

-- these bytes are what stands behind the first gate of the log of these records
pub record IsGroup (rs : List (List ℕ)) (bytes : List ℕ) : Type 0 where
  pub are : rs ≡ records_of (open_gate ∷ bytes)
  pub log : log_of rs ≡ open_gate ∷ bytes

-- Whichever records alone the images of a file might have held up to this gate, behind them stand these or none.
abbrev pub MayGain : (image : List ℕ → Type 0) (last : ℕ) (more : List (List ℕ)) → List ℕ → Type 0
MayGain image last more bytes =
    (rs : List (List ℕ)) → ((was : List ℕ) → image was → EndsAt last rs was) → IsBeforeOrAfter rs more bytes

-- the same of the records that are packed so
abbrev pub MayGainGroup : (image : List ℕ → Type 0) (last : ℕ) (group : List ℕ) → List ℕ → Type 0
MayGainGroup image last group bytes = (more : List (List ℕ)) → IsGroup more group → MayGain image last more bytes

-- what a write of n bytes at a place may make of what a crash might have left of a file
abbrev pub IsTornOf : (image : List ℕ → Type 0) (at n : ℕ) → List ℕ → Type 0
IsTornOf image at n bytes = (was : List ℕ) × image was × Torn at n was bytes

-- The log may be appended to: all its records were read, and in each image of its file the gate behind the last is closed.
pub record IsReady (log : Place) (v : View) : Type 0 where
  pub all_read : log.read ≡ log.records
  pub found : IfSome (v.seen log.file) (Holds log)
  pub closed : ImagesAre (v.seen log.file) (v.image log.file) (IsClosedAt log.last)

-- A crash leaves of the file what a read gives, and that is the log that stands so.
pub record IsSettled (file : ℕ) (log : Place) (v : View) : Type 0 where
  pub safe : IsSafe (v.seen file) (v.image file)
  pub found : IfSome (v.seen file) (Holds log)

-- no record was left to be read
pub record AtEnd (old new : Place) : Type 0 where
  pub all_read : old.read ≡ old.records
  pub same : new ≡ old

-- A log as bytes: its open records in order, and where an open record lacks bytes.
use Rattle.std.specs.Prelude.{◌≡◌, ◌≢◌, ℕ, zero, suc, ◌+◌, ◌<◌, ◌≤◌, List, [], ◌∷◌, ◌++◌, length, take, drop, Option, Some, None, if◌then◌else◌, ◌==◌, nat_lt}
use Rattle.byteorder.specs.Endian.{big_bytes, big_number}

-- the byte of an open gate; any other is a closed one
abbrev pub open_gate : ℕ
open_gate = 165

-- the length of a record, in the first four bytes behind its gate
unfoldable pub length_of : List ℕ → ℕ
length_of bytes = big_number 4 bytes

-- What a log holds: its open records in order, and, where an open record lacks bytes, the offset of that record's length.
pub record Content : Type 0 where
  pub records : List (List ℕ)
  pub lacking : Option ℕ

-- no record, and none that lacks bytes
abbrev pub no_content : Content
no_content = record { records = []; lacking = None }

-- a record, and then this
abbrev pub with_record : List ℕ → Content → Content
with_record r c = record { records = r ∷ c.records; lacking = c.lacking }

-- What stands behind a gate at this offset, and from it on: at a closed gate nothing. An open record is a length, that many bytes and
-- the next gate. The first number is a bound on how many records there are.
abbrev pub content_from : ℕ → ℕ → List ℕ → Content
content_from zero at bytes = no_content
content_from (suc n) at [] = no_content
content_from (suc n) at (gate ∷ rest) =
    if gate == open_gate then
    (if nat_lt (length rest) (5 + length_of rest)
    then record { records = []; lacking = Some (at + 1) }
    else with_record (take (length_of rest) (drop 4 rest)) (content_from n (at + 5 + length_of rest) (drop (4 + length_of rest) rest)))
    else no_content

-- what a file holds as a log; one that is shorter than 2 bytes holds nothing
unfoldable pub content_of : List ℕ → Content
content_of bytes = if nat_lt (length bytes) 2 then no_content else content_from (length bytes) 0 bytes

-- the open records of a file, in order
abbrev pub records_of : List ℕ → List (List ℕ)
records_of bytes = (content_of bytes).records

-- the offset of the length of the first open record that lacks bytes
abbrev pub lacking_in : List ℕ → Option ℕ
lacking_in bytes = (content_of bytes).lacking

-- how many bytes there are before the gate behind these records
abbrev pub span : List (List ℕ) → ℕ
span [] = 0
span (r ∷ rs) = 5 + length r + span rs

-- the bytes of a log of these records: each behind an open gate, and at the end a closed one, `00`
abbrev pub log_of : List (List ℕ) → List ℕ
log_of [] = 0 ∷ []
log_of (r ∷ rs) = open_gate ∷ (big_bytes 4 (length r) ++ (r ++ log_of rs))

-- at this place a byte stands that is no open gate
pub record IsClosedAt (at : ℕ) (bytes : List ℕ) : Type 0 where
  pub gate : ℕ
  pub behind : List ℕ
  pub there : drop at bytes ≡ gate ∷ behind
  pub closed : gate ≢ open_gate

-- at this place an open gate stands, and behind it a record that lacks bytes
pub record LacksAt (at : ℕ) (bytes : List ℕ) : Type 0 where
  pub behind : List ℕ
  pub there : drop at bytes ≡ open_gate ∷ behind
  pub short : length behind < 5 + length_of behind

-- at this place an open gate stands, and behind it a whole record up to the next gate
pub record IsOpenAt (at after : ℕ) (bytes : List ℕ) : Type 0 where
  pub behind : List ℕ
  pub there : drop at bytes ≡ open_gate ∷ behind
  pub enough : 5 + length_of behind ≤ length behind
  pub next : after ≡ at + 5 + length_of behind

-- the bytes of the record behind the gate at this place
abbrev pub record_at : ℕ → List ℕ → List ℕ
record_at at bytes = take (length_of (drop (at + 1) bytes)) (drop (at + 5) bytes)

-- The calls that a list of entries and the bytes of all of them stand for.
use Rattle.std.specs.Prelude.{ℕ, List, [], ◌∷◌, Option, Some, None, take, drop}
use Rattle.kh_io.specs.Call.{Call, Take, Give, Len, ReadAt, WriteAt, Cut, Sync}
use Rattle.kh_io.specs.declared.journal.Entry.{Entry}
use Rattle.kh_io.specs.declared.journal.Entry.TheVariants.{Taken, Given, Asked, Read, Written, CutTo, Synced}

-- the number, or 0 where there is none
abbrev pub or_zero : Option ℕ → ℕ
or_zero None = 0
or_zero (Some n) = n

-- these bytes, where there is a number
abbrev pub where_some : Option ℕ → List ℕ → Option (List ℕ)
where_some None bytes = None
where_some (Some _) bytes = Some bytes

-- how many of the bytes belong to an entry
abbrev pub byte_count : Entry → ℕ
byte_count (Taken asked count) = or_zero count
byte_count (Given len count) = len
byte_count (Asked file len) = 0
byte_count (Read file at asked count) = or_zero count
byte_count (Written file at len done) = len
byte_count (CutTo file len done) = 0
byte_count (Synced file done) = 0

-- the call of an entry with these bytes
abbrev pub call_of : Entry → List ℕ → Call
call_of (Taken asked count) bytes = Take asked (where_some count bytes)
call_of (Given len count) bytes = Give bytes count
call_of (Asked file len) bytes = Len file len
call_of (Read file at asked count) bytes = ReadAt file at asked (where_some count bytes)
call_of (Written file at len done) bytes = WriteAt file at bytes done
call_of (CutTo file len done) bytes = Cut file len done
call_of (Synced file done) bytes = Sync file done

-- the calls of these entries, whose bytes follow one another
abbrev pub calls_of : List Entry → List ℕ → List Call
calls_of [] bytes = []
calls_of (e ∷ es) bytes = call_of e (take (byte_count e) bytes) ∷ calls_of es (drop (byte_count e) bytes)

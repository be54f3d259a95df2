-- A host in memory, whose calls fail where they are listed.
use Rattle.std.specs.Prelude.{ℕ, ◌+◌, ◌-◌, ◌^◌, min, Bool, true, false, if◌then◌else◌, List, [], length, Option, Some, None, ◌==◌, nat_lt}
use Rattle.std.specs.List.{list_any}
use Rattle.kh_io.specs.declared.files.Files.{Files}
use Rattle.kh_io.specs.Call.{Call}
use Rattle.kh_io.specs.Recording.{Recording, left_after, given_in, seen_after, image_after, left_since, noted}
use Rattle.kh_io.specs.View.{View}

pub record Memory : Type 0 where
  -- the input, the files and the calls so far
  pub tape : Recording
  -- whether these are all calls: none was past the room
  pub tells : Bool
  -- the numbers of the calls that fail, counted from 0
  pub failing : List ℕ
  pub disk_faults : ℕ
  pub read_faults : ℕ
  pub write_faults : ℕ

-- a recording before the first call
abbrev pub blank : List ℕ → Files → ℕ → Recording
blank input first room = record { input = input; first = first; calls = []; room = room }

-- a host before its first call
abbrev pub fresh : List ℕ → Files → List ℕ → ℕ → Memory
fresh input first failing room = record {
  tape = blank input first room;
  tells = true;
  failing = failing;
  disk_faults = 0;
  read_faults = 0;
  write_faults = 0;
}

-- its journal: all its calls, while none was past the room
abbrev pub journal_of : Memory → Option (List Call)
journal_of m = if m.tells then Some m.tape.calls else None

-- what it tells
abbrev pub memory_view : Memory → View
memory_view m = record {
  seen = λ file. Some (seen_after m.tape.first m.tape.calls file);
  image = image_after m.tape.first m.tape.calls;
  moment = length m.tape.calls;
  since = left_since m.tape.first m.tape.calls;
  stamp = length (given_in m.tape.calls);
  left = Some (left_after m.tape.input m.tape.calls);
  given = Some (given_in m.tape.calls);
  journal = journal_of m;
  faults = record { disk = m.disk_faults; reads = m.read_faults; writes = m.write_faults };
}

-- the next call is listed
abbrev pub is_listed : Memory → Bool
is_listed m = list_any (λ k. k == length m.tape.calls) m.failing

-- with one more call
abbrev pub add_call : Memory → Call → Memory
add_call m call = record m { tape = noted m.tape call }

-- after a call past the room, which isn't numbered
abbrev pub stopped : Memory → Memory
stopped m = record m { tells = false }

-- one more, while there is room to rise
abbrev pub one_more : ℕ → ℕ
one_more count = if nat_lt count (2 ^ 64 - 1) then count + 1 else count

-- with one more fault of the disk, of a `take`, of a `give`
abbrev pub disk_fault : Memory → Memory
disk_fault m = record m { disk_faults = one_more m.disk_faults }

abbrev pub read_fault : Memory → Memory
read_fault m = record m { read_faults = one_more m.read_faults }

abbrev pub write_fault : Memory → Memory
write_fault m = record m { write_faults = one_more m.write_faults }

-- how many bytes the next `take` moves: as many as the buffer holds and the input has, and none where it fails
abbrev pub take_len : Recording → ℕ → ℕ
take_len r asked = min asked (length (left_after r.input r.calls))

abbrev pub take_moves : Memory → ℕ → ℕ
take_moves m asked = if is_listed m then 0 else take_len m.tape asked

-- how many bytes the next `read_at` moves
abbrev pub read_len : Recording → ℕ → ℕ → ℕ → ℕ
read_len r file at asked = min asked (length (seen_after r.first r.calls file) - at)

abbrev pub read_moves : Memory → ℕ → ℕ → ℕ → ℕ
read_moves m file at asked = if is_listed m then 0 else read_len m.tape file at asked

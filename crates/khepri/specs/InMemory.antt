-- A run over a host in memory, by the host's own values.
use Rattle.std.specs.Prelude.{ℕ, List}
use Rattle.kh_io.specs.declared.files.Files.{Files}
use Rattle.kh_io.specs.Memory.{Memory}
use Rattle.kh_io.specs.Recording.{left_after, seen_after}
use Rattle.khepri.specs.Run.{Passed}

-- what a read gives of its files
abbrev pub files_now : Memory → Files
files_now m = record {
  s0 = seen_after m.tape.first m.tape.calls 0;
  l0 = seen_after m.tape.first m.tape.calls 1;
  s1 = seen_after m.tape.first m.tape.calls 2;
  l1 = seen_after m.tape.first m.tape.calls 3;
}

-- the input that was left at entry and at exit, and these bytes that were given
abbrev pub passed_by : (old new : Memory) → List ℕ → Passed
passed_by old new given = record {
  input = left_after old.tape.input old.tape.calls;
  rest = left_after new.tape.input new.tape.calls;
  given = given;
}

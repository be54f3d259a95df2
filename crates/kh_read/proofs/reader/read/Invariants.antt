use Rattle.std.proofs.Common.{◌≡◌, drop}
use Rattle.kh_read.specs.Steps.{fresh, read_on}
use Rattle.kh_read.specs.Views.{setting, state_of}
use Rattle.kh_read.proofs.reader.read.Given as goal

abbrev pub invariant-loop-place : goal.invariant-loop-place
invariant-loop-place l = read_on (setting l.fn.mode) (state_of l.state) l.place (drop l.place l.fn.bytes) ≡ read_on (setting l.fn.mode) fresh 0 l.fn.bytes

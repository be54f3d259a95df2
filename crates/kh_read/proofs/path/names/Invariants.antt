use Rattle.std.proofs.Common.{◌≡◌, ◌-◌}
use Rattle.kh_read.specs.Reading.{names_at}
use Rattle.kh_read.proofs.Names.{with_front}
use Rattle.kh_read.proofs.path.names.Given as goal

abbrev pub invariant-loop-count : goal.invariant-loop-count
invariant-loop-count l = with_front l.names.items (names_at (32 - l.count) l.rest) ≡ names_at 32 l.fn.bytes

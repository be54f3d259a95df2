use Rattle.std.proofs.Common.{◌≡◌, drop}
use Rattle.kh_read.specs.Reading.{literal_at}
use Rattle.kh_read.proofs.scan.literal.Given as goal

abbrev pub invariant-loop-byte : goal.invariant-loop-byte
invariant-loop-byte l = literal_at (drop l.byte-index l.wanted) l.rest ≡ literal_at l.fn.wanted l.fn.bytes

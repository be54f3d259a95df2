use Rattle.std.proofs.Common.{◌≡◌, ◌++◌, drop, map, decimal}
use Rattle.kh_text_defs.specs.Shown.{with_commas}
use Rattle.kh_print.proofs.Joined.{left_to_write}
use Rattle.kh_print.proofs.binary.push_numbers.Given as goal

abbrev pub invariant-loop-byte : goal.invariant-loop-byte
invariant-loop-byte l = l.out.items ++ left_to_write l.first (map decimal (drop l.byte-index l.bytes)) ≡ l.fn.out.items ++ with_commas (map decimal l.bytes)

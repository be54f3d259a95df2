use Rattle.std.proofs.Common.{◌≡◌, ◌++◌, drop}
use Rattle.std.specs.Str.{all_scalars, encode_utf8_all}
use Rattle.kh_read.proofs.points.with_utf8.Given as goal

abbrev pub invariant-loop-point : goal.invariant-loop-point
invariant-loop-point l =
    (all_scalars (drop l.point-index l.points) ≡ all_scalars l.points)
    × (l.all.items ++ encode_utf8_all (drop l.point-index l.points) ≡ l.fn.bytes.items ++ encode_utf8_all l.points)

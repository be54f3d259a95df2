use Rattle.std.proofs.Common.{◌≡◌, ◌++◌, drop}
use Rattle.kh_read.specs.Steps.{all_latin}
use Rattle.kh_read.proofs.points.with_latin.Given as goal

abbrev pub invariant-loop-point : goal.invariant-loop-point
invariant-loop-point l =
    (all_latin (drop l.point-index l.points) ≡ all_latin l.points)
    × (l.all.items ++ drop l.point-index l.points ≡ l.fn.bytes.items ++ l.points)

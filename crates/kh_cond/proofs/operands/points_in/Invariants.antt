use Rattle.std.proofs.Common.{◌≡◌, drop, string_bytes}
use Rattle.kh_cond.specs.Reading.{in_front, points_in}
use Rattle.kh_cond.proofs.operands.points_in.Given as goal

abbrev pub invariant-loop-part : goal.invariant-loop-part
invariant-loop-part l = in_front (string_bytes l.text) (points_in (drop l.part-index l.parts)) ≡ points_in l.parts

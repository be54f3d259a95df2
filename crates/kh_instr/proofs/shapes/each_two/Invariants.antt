use Rattle.std.proofs.Common.{◌≡◌, ◌≤◌, ◌-◌, length, drop, ◌++◌, option_map}
use Rattle.kh_instr.specs.Operands.{each_two}
use Rattle.kh_instr.proofs.shapes.each_two.Given as goal

abbrev pub invariant-loop-at : goal.invariant-loop-at
invariant-loop-at g l = each_two g.A.Shape.reads g.B.Shape.reads l.parts ≡ option_map (λ more. l.all ++ more) (each_two g.A.Shape.reads g.B.Shape.reads (drop l.at l.parts))

abbrev pub decreases-loop-at : goal.decreases-loop-at
decreases-loop-at g l = length l.parts - l.at

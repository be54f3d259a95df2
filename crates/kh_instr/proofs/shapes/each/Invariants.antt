use Rattle.std.proofs.Common.{◌≡◌, drop, ◌++◌, option_map}
use Rattle.kh_instr.specs.Operands.{each}
use Rattle.kh_instr.proofs.shapes.each.Given as goal

abbrev pub invariant-loop-part : goal.invariant-loop-part
invariant-loop-part g l = each g.A.Shape.reads l.parts ≡ option_map (λ more. l.all ++ more) (each g.A.Shape.reads (drop l.part-index l.parts))

use Rattle.std.proofs.Common.{◌≡◌, take, map, pos}
use Rattle.kh_term.specs.declared.tree.TermTree.TheVariants as tree
use Rattle.kh_read.proofs.points.points_term.Given as goal

abbrev pub invariant-loop-point : goal.invariant-loop-point
invariant-loop-point l = l.parts.nodes ≡ map (λ c. tree.Int (pos c)) (take l.point-index l.points)

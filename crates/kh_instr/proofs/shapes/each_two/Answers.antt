use Rattle.std.proofs.Common.{◌≡◌, ◌<◌, ◌+◌, ◌++◌, ◌∷◌, [], length, drop, Some, option_map, sym, arith, rules}
use Rattle.kh_instr.specs.Operands.{both, each_two}
use Rattle.kh_instr.proofs.Each.{two_next, two_odd}
use Rattle.kh_instr.proofs.shapes.each_two.Goals as goal

pub returns-then-at-parts : goal.returns-then-at-parts
returns-then-at-parts g c = two_odd _ _ _ _ _ c.if-at-parts.true c.loop-at.invariant

pub loop-at-preserved : goal.loop-at-preserved
loop-at-preserved g c =
    let inside : c.loop-at.at + 1 < length c.args.parts.now = omega arith in
    let read : both g.A.Shape.reads g.B.Shape.reads c.index-parts-at.result c.index-parts-at-in-loop-at.result ≡ Some c.in-Some.values = search rules in
    rw c.in_ok-push-in-Some.ensures.ok (two_next _ _ _ _ _ _ _ _ inside c.index-parts-at.is c.index-parts-at-in-loop-at.is read c.loop-at.invariant)

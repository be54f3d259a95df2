use Rattle.std.proofs.Common.{◌≡◌, ◌≤◌, ◌+◌, ◌^◌, ◌-◌, drop, List, [], ◌∷◌}
use Rattle.std.specs.List.{flat_map}
use Rattle.kh_instr.specs.Syntax.{literal_in, literals_in, literals}
use Rattle.kh_instr.specs.Written.{all_literals}
use Rattle.kh_code.specs.Capped.{capped, all_counted}
use Rattle.kh_code.proofs.literals.with_firsts.Given as goal

abbrev pub invariant-loop-pair : goal.invariant-loop-pair
invariant-loop-pair g l = (l.all ≤ 2 ^ 64 - 1) × (capped (l.all + all_counted (flat_map (λ p. literal_in p.0) (drop l.pair-index l.pairs))) ≡ capped (l.fn.sum + all_counted (flat_map (λ p. literal_in p.0) l.pairs)))

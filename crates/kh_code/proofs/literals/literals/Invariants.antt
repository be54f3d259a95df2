use Rattle.std.proofs.Common.{◌≡◌, ◌≤◌, ◌+◌, ◌^◌, ◌-◌, drop, List, [], ◌∷◌}
use Rattle.std.specs.List.{flat_map}
use Rattle.kh_instr.specs.Syntax.{literal_in, literals_in, literals}
use Rattle.kh_instr.specs.Written.{all_literals}
use Rattle.kh_code.specs.Capped.{capped, all_counted}
use Rattle.kh_code.proofs.literals.literals.Given as goal

abbrev pub invariant-loop-function : goal.invariant-loop-function
invariant-loop-function l = (l.all ≤ 2 ^ 64 - 1) × (capped (l.all + all_counted (all_literals (drop l.function-index l.functions))) ≡ capped (all_counted (all_literals l.functions)))

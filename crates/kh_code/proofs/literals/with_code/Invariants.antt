use Rattle.std.proofs.Common.{◌≡◌, ◌≤◌, ◌+◌, ◌^◌, ◌-◌, drop, List, [], ◌∷◌}
use Rattle.std.specs.List.{flat_map}
use Rattle.kh_instr.specs.Syntax.{literal_in, literals_in, literals}
use Rattle.kh_instr.specs.Written.{all_literals}
use Rattle.kh_code.specs.Capped.{capped, all_counted}
use Rattle.kh_code.proofs.literals.with_code.Given as goal

abbrev pub invariant-loop-instr : goal.invariant-loop-instr
invariant-loop-instr l = (l.all ≤ 2 ^ 64 - 1) × (capped (l.all + all_counted (flat_map literals (drop l.instr-index l.code))) ≡ capped (l.fn.sum + all_counted (flat_map literals l.code)))

use Rattle.std.proofs.Common.{◌≡◌, ◌≤◌, ◌+◌, ◌^◌, ◌-◌, drop, List, [], ◌∷◌}
use Rattle.std.specs.List.{flat_map}
use Rattle.kh_instr.specs.Syntax.{literal_in, literals_in, literals}
use Rattle.kh_instr.specs.Written.{all_literals}
use Rattle.kh_code.specs.Capped.{capped, all_counted}
use Rattle.kh_code.proofs.literals.with_sources.Given as goal

abbrev pub invariant-loop-source : goal.invariant-loop-source
invariant-loop-source l = (l.all ≤ 2 ^ 64 - 1) × (capped (l.all + all_counted (literals_in (drop l.source-index l.sources))) ≡ capped (l.fn.sum + all_counted (literals_in l.sources)))

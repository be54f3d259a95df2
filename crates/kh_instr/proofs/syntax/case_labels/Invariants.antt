use Rattle.std.proofs.Common.{◌≡◌, ◌∷◌, map, take}
use Rattle.kh_instr.proofs.syntax.case_labels.Given as goal

abbrev pub invariant-loop-case : goal.invariant-loop-case
invariant-loop-case g l = l.found.items ≡ l.label ∷ map (λ c. c.1) (take l.case-index l.cases)

use Rattle.std.proofs.Common.{◌≡◌, ◌≤◌, ◌+◌, ◌^◌, ◌-◌, drop, length}
use Rattle.std.specs.List.{sum_by}
use Rattle.kh_code.specs.Capped.{capped}
use Rattle.kh_code.proofs.totals.instructions.Given as goal

abbrev pub invariant-loop-function : goal.invariant-loop-function
invariant-loop-function l = (l.all ≤ 2 ^ 64 - 1) × (capped (l.all + sum_by (λ f. length f.code) (drop l.function-index l.functions)) ≡ capped (sum_by (λ f. length f.code) l.functions))

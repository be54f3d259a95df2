use Rattle.std.proofs.Common.{◌≡◌, drop}
use Rattle.kh_cond.specs.Exact.{is_exact}
use Rattle.kh_cond.proofs.exact.are_exact.Given as goal

abbrev pub invariant-loop-component : goal.invariant-loop-component
invariant-loop-component l = is_exact (drop l.component-index l.components) ≡ is_exact l.components

use Rattle.std.proofs.Common.{◌≡◌, drop}
use Rattle.kh_cond.specs.Exact.{target_of}
use Rattle.kh_cond.specs.Reading.{in_front}
use Rattle.kh_cond.proofs.exact.names_in.Given as goal

abbrev pub invariant-loop-component : goal.invariant-loop-component
invariant-loop-component l = in_front l.names.items (target_of (drop l.component-index l.components)) ≡ target_of l.components

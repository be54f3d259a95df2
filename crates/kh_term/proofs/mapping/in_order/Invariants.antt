use Rattle.std.proofs.Common.{◌≡◌, ◌++◌}
use Rattle.kh_term.specs.MapOf.{trees_of}
use Rattle.kh_term.proofs.mapping.in_order.Given as goal

abbrev pub invariant-loop-key : goal.invariant-loop-key
invariant-loop-key l = l.nodes ++ trees_of l.key-iterator ≡ trees_of l.fn.kept.entries

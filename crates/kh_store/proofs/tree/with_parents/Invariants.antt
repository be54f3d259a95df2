use Rattle.std.proofs.Common.{◌≡◌}
use Rattle.kh_store.specs.Tree.{fronts, with_nodes}
use Rattle.kh_store.proofs.tree.with_parents.Given as goal

abbrev pub invariant-loop-len : goal.invariant-loop-len
invariant-loop-len l = l.all ≡ with_nodes l.nodes (fronts l.len l.path)

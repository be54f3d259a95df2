use Rattle.std.proofs.Common.{◌≡◌, ◌||◌, map, drop}
use Rattle.kh_instr.specs.Operands.{some_hold, holds_unsupported}
use Rattle.kh_instr.proofs.operands.+unsupported.Given as goal

abbrev pub invariant-some_unsupported-loop-tree : goal.invariant-some_unsupported-loop-tree
invariant-some_unsupported-loop-tree l = some_hold (map holds_unsupported (drop l.tree-index l.trees)) ≡ some_hold (map holds_unsupported l.trees)

abbrev pub invariant-some_pair_unsupported-loop-pair : goal.invariant-some_pair_unsupported-loop-pair
invariant-some_pair_unsupported-loop-pair l = some_hold (map (λ p. holds_unsupported p.0 || holds_unsupported p.1) (drop l.pair-index l.pairs)) ≡ some_hold (map (λ p. holds_unsupported p.0 || holds_unsupported p.1) l.pairs)

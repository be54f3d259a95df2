use Rattle.std.proofs.Common.{◌≡◌, ◌≤◌, ◌+◌, ◌-◌, ◌^◌, min, drop}
use Rattle.kh_term.specs.Size.{sizes_of, pair_sizes_of}
use Rattle.kh_term.proofs.limits.+capped.Given as goal

abbrev pub invariant-capped_sizes-loop-tree : goal.invariant-capped_sizes-loop-tree
invariant-capped_sizes-loop-tree l = (l.all ≤ 2 ^ 64 - 1) × (min (l.all + sizes_of (drop l.tree-index l.trees)) (2 ^ 64 - 1) ≡ min (sizes_of l.trees) (2 ^ 64 - 1))

abbrev pub invariant-capped_pair_sizes-loop-pair : goal.invariant-capped_pair_sizes-loop-pair
invariant-capped_pair_sizes-loop-pair l = (l.all ≤ 2 ^ 64 - 1) × (min (l.all + pair_sizes_of (drop l.pair-index l.pairs)) (2 ^ 64 - 1) ≡ min (pair_sizes_of l.pairs) (2 ^ 64 - 1))

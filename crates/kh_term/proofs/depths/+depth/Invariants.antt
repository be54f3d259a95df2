use Rattle.std.proofs.Common.{◌≡◌, map, max, drop}
use Rattle.kh_term.specs.Size.{depth_of, greatest}
use Rattle.kh_term.proofs.depths.+depth.Given as goal

abbrev pub invariant-deepest-loop-tree : goal.invariant-deepest-loop-tree
invariant-deepest-loop-tree l = max l.most (greatest (map depth_of (drop l.tree-index l.trees))) ≡ greatest (map depth_of l.trees)

abbrev pub invariant-deepest_pair-loop-pair : goal.invariant-deepest_pair-loop-pair
invariant-deepest_pair-loop-pair l = max l.most (greatest (map (λ p. max (depth_of p.0) (depth_of p.1)) (drop l.pair-index l.pairs))) ≡ greatest (map (λ p. max (depth_of p.0) (depth_of p.1)) l.pairs)

use Rattle.std.proofs.Common.{◌≡◌, map, max, drop}
use Rattle.kh_term.specs.Size.{width_of, greatest}
use Rattle.kh_term.proofs.widths.+width.Given as goal

abbrev pub invariant-widest_part-loop-tree : goal.invariant-widest_part-loop-tree
invariant-widest_part-loop-tree l = max l.most (greatest (map width_of (drop l.tree-index l.trees))) ≡ greatest (map width_of l.trees)

abbrev pub invariant-widest_of_pairs-loop-pair : goal.invariant-widest_of_pairs-loop-pair
invariant-widest_of_pairs-loop-pair l = max l.most (greatest (map (λ p. max (width_of p.0) (width_of p.1)) (drop l.pair-index l.pairs))) ≡ greatest (map (λ p. max (width_of p.0) (width_of p.1)) l.pairs)

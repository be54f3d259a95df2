use Rattle.std.proofs.Common.{◌≡◌, take}
use Rattle.kh_term.proofs.copying.+copy.Given as goal

abbrev pub invariant-copy_pairs-loop-pair : goal.invariant-copy_pairs-loop-pair
invariant-copy_pairs-loop-pair l = l.all ≡ take l.pair-index l.pairs

abbrev pub invariant-copy_trees-loop-tree : goal.invariant-copy_trees-loop-tree
invariant-copy_trees-loop-tree l = l.all ≡ take l.tree-index l.trees

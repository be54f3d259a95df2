use Rattle.std.proofs.Common.{◌≡◌, ◌+◌, drop}
use Rattle.kh_term.specs.Size.{sizes_of, pair_sizes_of}
use Rattle.kh_term.proofs.sizes.+size.Given as goal

abbrev pub invariant-sizes-loop-tree : goal.invariant-sizes-loop-tree
invariant-sizes-loop-tree l = l.all + sizes_of (drop l.tree-index l.trees) ≡ sizes_of l.trees

abbrev pub invariant-pair_sizes-loop-pair : goal.invariant-pair_sizes-loop-pair
invariant-pair_sizes-loop-pair l = l.all + pair_sizes_of (drop l.pair-index l.pairs) ≡ pair_sizes_of l.pairs

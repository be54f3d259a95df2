use Rattle.std.proofs.Common.{◌≡◌, ◌+◌, length, drop}
use Rattle.kh_term.specs.Packed.{all_packed_of, pairs_packed_of}
use Rattle.kh_term.proofs.packed_lens.+packed_len.Given as goal

abbrev pub invariant-all_len-loop-tree : goal.invariant-all_len-loop-tree
invariant-all_len-loop-tree l = l.all + length (all_packed_of (drop l.tree-index l.trees)) ≡ length (all_packed_of l.trees)

abbrev pub invariant-pairs_len-loop-pair : goal.invariant-pairs_len-loop-pair
invariant-pairs_len-loop-pair l = l.all + length (pairs_packed_of (drop l.pair-index l.pairs)) ≡ length (pairs_packed_of l.pairs)

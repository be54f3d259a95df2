use Rattle.std.proofs.Common.{◌≡◌, ◌+◌, length, drop}
use Rattle.kh_term.specs.Packed.{all_packed_of}
use Rattle.kh_instr.proofs.weight.all_len.Given as goal

abbrev pub invariant-loop-tree : goal.invariant-loop-tree
invariant-loop-tree l = l.all + length (all_packed_of (drop l.tree-index l.trees)) ≡ length (all_packed_of l.trees)

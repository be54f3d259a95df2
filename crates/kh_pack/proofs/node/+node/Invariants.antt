use Rattle.std.proofs.Common.{◌≡◌, ◌++◌, drop}
use Rattle.kh_term.specs.Packed.{all_packed_of, pairs_packed_of}
use Rattle.kh_pack.proofs.node.+node.Given as goal

abbrev pub invariant-push_pairs-loop-pair : goal.invariant-push_pairs-loop-pair
invariant-push_pairs-loop-pair l = l.out.items ++ pairs_packed_of (drop l.pair-index l.pairs) ≡ l.fn.out.items ++ pairs_packed_of l.pairs

abbrev pub invariant-push_parts-loop-part : goal.invariant-push_parts-loop-part
invariant-push_parts-loop-part l = l.out.items ++ all_packed_of (drop l.part-index l.parts) ≡ l.fn.out.items ++ all_packed_of l.parts

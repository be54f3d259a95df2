use Rattle.std.proofs.Common.{◌≡◌, ◌++◌, map, drop}
use Rattle.kh_text_defs.specs.Shown.{shown, with_commas}
use Rattle.kh_print.proofs.Joined.{left_to_write}
use Rattle.kh_print.specs.Parts.{shown_pair}
use Rattle.kh_print.proofs.node.+node.Given as goal

abbrev pub invariant-push_pairs-loop-pair : goal.invariant-push_pairs-loop-pair
invariant-push_pairs-loop-pair l = l.out.items ++ left_to_write l.first (map shown_pair (drop l.pair-index l.pairs)) ≡ l.fn.out.items ++ with_commas (map shown_pair l.pairs)

abbrev pub invariant-push_parts-loop-part : goal.invariant-push_parts-loop-part
invariant-push_parts-loop-part l = l.out.items ++ left_to_write l.first (map shown (drop l.part-index l.parts)) ≡ l.fn.out.items ++ with_commas (map shown l.parts)

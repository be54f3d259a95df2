use Rattle.std.proofs.Common.{◌≡◌, ◌+◌, length}
use Rattle.kh_term.specs.Size.{size_of}
use Rattle.kh_heap.specs.Heap.{term_at}
use Rattle.kh_bif_data.specs.Lists.{elements}
use Rattle.kh_bif_data.proofs.Walking.{Along}
use Rattle.kh_bif_data.proofs.elements.count.Given as goal

abbrev pub invariant-along : goal.invariant-along
invariant-along l = record {
  along : Along l.heap l.fn.a l.left;
  so_far : l.count + length (elements (term_at l.heap l.left)) ≡ length (elements (term_at l.heap l.fn.a));
}

abbrev pub decreases-along : goal.decreases-along
decreases-along l = size_of (term_at l.heap l.left)

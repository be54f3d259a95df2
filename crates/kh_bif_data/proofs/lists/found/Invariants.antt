use Rattle.std.proofs.Common.{◌≡◌, ◌||◌}
use Rattle.std.specs.List.{list_any}
use Rattle.kh_term.specs.Size.{size_of}
use Rattle.kh_heap.specs.Heap.{term_at}
use Rattle.kh_bif_data.specs.Lists.{elements, is_term}
use Rattle.kh_bif_data.proofs.Walking.{Along}
use Rattle.kh_bif_data.proofs.lists.found.Given as goal

abbrev pub invariant-along : goal.invariant-along
invariant-along l = record {
  along : Along l.heap l.fn.a l.left;
  so_far :
      (l.found || list_any (is_term (term_at l.heap l.x)) (elements (term_at l.heap l.left)))
      ≡ list_any (is_term (term_at l.heap l.x)) (elements (term_at l.heap l.fn.a));
}

abbrev pub decreases-along : goal.decreases-along
decreases-along l = size_of (term_at l.heap l.left)

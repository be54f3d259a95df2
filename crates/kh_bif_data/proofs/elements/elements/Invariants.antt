use Rattle.std.proofs.Common.{◌≡◌, ◌++◌}
use Rattle.kh_term.specs.Size.{size_of}
use Rattle.kh_heap.specs.Heap.{term_at, terms_at, HoldsAll}
use Rattle.kh_bif_data.specs.Lists.{elements}
use Rattle.kh_bif_data.proofs.Walking.{Along}
use Rattle.kh_bif_data.proofs.elements.elements.Given as goal

-- the elements so far, and those that are left
abbrev pub invariant-along : goal.invariant-along
invariant-along l = record {
  along : Along l.heap l.fn.a l.left;
  held : HoldsAll l.heap l.items.items;
  terms : terms_at l.heap l.items.items ++ elements (term_at l.heap l.left) ≡ elements (term_at l.heap l.fn.a);
}

abbrev pub decreases-along : goal.decreases-along
decreases-along l = size_of (term_at l.heap l.left)

use Rattle.std.proofs.Common.{◌≡◌}
use Rattle.std.specs.List.{find}
use Rattle.std.specs.Prelude.{IfSome, option_map}
use Rattle.kh_term.specs.MapOf.{later}
use Rattle.kh_term.specs.Size.{size_of}
use Rattle.kh_heap.specs.Heap.{term_at, Holds}
use Rattle.kh_bif_data.specs.Lists.{elements, has_at}
use Rattle.kh_bif_data.proofs.Walking.{Along}
use Rattle.kh_bif_data.proofs.lists.first_with.Given as goal

abbrev pub invariant-along : goal.invariant-along
invariant-along l = record {
  along : Along l.heap l.fn.a l.left;
  held : IfSome l.found (Holds l.heap);
  so_far :
      later (option_map (term_at l.heap) l.found) (find (has_at (term_at l.heap l.key) l.place) (elements (term_at l.heap l.left)))
      ≡ find (has_at (term_at l.heap l.key) l.place) (elements (term_at l.heap l.fn.a));
}

abbrev pub decreases-along : goal.decreases-along
decreases-along l = size_of (term_at l.heap l.left)

use Rattle.std.proofs.Common.{◌≡◌, ◌+◌, ◌≤◌, IsTrue, length, drop}
use Rattle.kh_term.specs.Limits.{is_small}
use Rattle.kh_term.specs.Make.{list_with_tail}
use Rattle.kh_heap.specs.Heap.{term_at, terms_at, Holds, Grew}
use Rattle.kh_bif_data.proofs.building.onto.Given as goal

-- the list has the terms from the i-th on
abbrev pub invariant-loop-i : goal.invariant-loop-i
invariant-loop-i l = record {
  within : l.i ≤ length l.items;
  grew : Grew l.fn.heap l.heap;
  held : Holds l.heap l.list;
  term : term_at l.heap l.list ≡ list_with_tail (drop l.i (terms_at l.fn.heap l.items)) (term_at l.fn.heap l.fn.tail);
  small : IsTrue (is_small (term_at l.heap l.list));
  cells : length l.heap + l.i ≤ length l.fn.heap + length l.items;
}

abbrev pub decreases-loop-i : goal.decreases-loop-i
decreases-loop-i l = l.i

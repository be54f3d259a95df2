use Rattle.std.proofs.Common.{◌≡◌, ◌+◌, ◌*◌, ◌≤◌, length, map, take}
use Rattle.kh_heap.specs.Heap.{term_at, terms_at, HoldsAll, Grew}
use Rattle.kh_heap.specs.Parts.{pairs_in}
use Rattle.kh_bif_data.specs.Maps.{pair_tree}
use Rattle.kh_bif_data.proofs.lookups.tuples.Given as goal

abbrev pub invariant-loop-i : goal.invariant-loop-i
invariant-loop-i l = record {
  grew : Grew l.fn.heap l.heap;
  held : HoldsAll l.heap l.items.items;
  terms : terms_at l.heap l.items.items ≡ map pair_tree (take l.i (pairs_in (term_at l.fn.heap l.m)));
  cells : length l.heap ≤ length l.fn.heap + 3 * l.i;
}

use Rattle.std.proofs.Common.{◌≡◌, ◌+◌, ◌*◌, ◌≤◌, length, map, drop}
use Rattle.kh_term.specs.Make.{list_of}
use Rattle.kh_heap.specs.Heap.{term_at, Holds, Grew}
use Rattle.kh_heap.specs.Parts.{bytes_in}
use Rattle.kh_bif_data.specs.Binaries.{byte_tree}
use Rattle.kh_bif_data.proofs.binaries.byte_list.Given as goal

-- the list has the bytes from the i-th on
abbrev pub invariant-loop-i : goal.invariant-loop-i
invariant-loop-i l = record {
  within : l.i ≤ l.fn.count;
  grew : Grew l.fn.heap l.heap;
  held : Holds l.heap l.list;
  term : term_at l.heap l.list ≡ list_of (map byte_tree (drop l.i (bytes_in (term_at l.fn.heap l.b))));
  cells : length l.heap + 2 * l.i ≤ length l.fn.heap + 2 * l.fn.count + 2;
}

abbrev pub decreases-loop-i : goal.decreases-loop-i
decreases-loop-i l = l.i

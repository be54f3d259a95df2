use Rattle.std.proofs.Common.{◌≡◌, ◌+◌, ◌*◌, ◌≤◌, length}
use Rattle.kh_heap.specs.Heap.{Holds, Grew}
use Rattle.kh_heap.proofs.tests.nested.Given as goal

-- the term so far is one of the heap, which grew by so many cells
abbrev pub invariant-levels : goal.invariant-levels
invariant-levels g l = record {
  held : Holds l.heap l.inner;
  grew : Grew l.fn.heap l.heap;
  cells : length l.heap ≤ length l.fn.heap + 6 * l.counter;
}

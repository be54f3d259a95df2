use Rattle.std.proofs.Common.{◌≡◌, ◌+◌, ◌≤◌, length, drop}
use Rattle.kh_heap.specs.Cells.{onto}
use Rattle.kh_heap.specs.Heap.{term_at, terms_at, Holds, Grew}
use Rattle.kh_heap.proofs.heap.Heap.cons_all.Given as goal

-- the list has the terms from the i-th on
abbrev pub invariant-loop-i : goal.invariant-loop-i
invariant-loop-i l = record {
  within : l.i ≤ length l.heads;
  grew : Grew l.fn.self l.self;
  held : Holds l.self l.list;
  term : term_at l.self l.list ≡ onto (drop l.i (terms_at l.fn.self l.heads)) (term_at l.fn.self l.fn.last);
  cells : length l.self + l.i ≤ length l.fn.self + length l.heads;
}

abbrev pub decreases-loop-i : goal.decreases-loop-i
decreases-loop-i l = l.i

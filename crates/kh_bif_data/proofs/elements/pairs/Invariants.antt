use Rattle.std.proofs.Common.{◌≡◌, take}
use Rattle.kh_heap.specs.Heap.{term_at, pairs_at, HoldsPairs}
use Rattle.kh_heap.specs.Parts.{pairs_in}
use Rattle.kh_bif_data.proofs.elements.pairs.Given as goal

abbrev pub invariant-loop-i : goal.invariant-loop-i
invariant-loop-i l = record {
  held : HoldsPairs l.heap l.items.items;
  terms : pairs_at l.heap l.items.items ≡ take l.i (pairs_in (term_at l.heap l.r));
}

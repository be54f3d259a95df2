use Rattle.std.proofs.Common.{◌≡◌, take}
use Rattle.kh_heap.specs.Heap.{term_at, terms_at, HoldsAll}
use Rattle.kh_heap.specs.Parts.{parts_in}
use Rattle.kh_bif_data.proofs.elements.parts.Given as goal

abbrev pub invariant-loop-i : goal.invariant-loop-i
invariant-loop-i l = record {
  held : HoldsAll l.heap l.items.items;
  terms : terms_at l.heap l.items.items ≡ take l.i (parts_in (term_at l.heap l.r));
}

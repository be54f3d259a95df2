use Rattle.std.proofs.Common.{◌≡◌, take}
use Rattle.kh_heap.specs.Heap.{term_at}
use Rattle.kh_heap.specs.Parts.{bytes_in}
use Rattle.kh_bif_data.proofs.elements.bytes.Given as goal

abbrev pub invariant-loop-i : goal.invariant-loop-i
invariant-loop-i l = l.items.items ≡ take l.i (bytes_in (term_at l.heap l.r))

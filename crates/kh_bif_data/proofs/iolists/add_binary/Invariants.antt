use Rattle.std.proofs.Common.{◌≡◌, ◌++◌, take}
use Rattle.kh_heap.specs.Heap.{term_at}
use Rattle.kh_heap.specs.Parts.{bytes_in}
use Rattle.kh_bif_data.proofs.iolists.add_binary.Given as goal

abbrev pub invariant-loop-i : goal.invariant-loop-i
invariant-loop-i l = l.out.items ≡ l.fn.out.items ++ take l.i (bytes_in (term_at l.heap l.r))

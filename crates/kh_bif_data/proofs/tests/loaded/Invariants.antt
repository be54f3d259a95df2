use Rattle.std.proofs.Common.{◌≡◌, length}
use Rattle.kh_heap.specs.Heap.{HoldsAll}
use Rattle.kh_bif_data.proofs.tests.loaded.Given as goal

abbrev pub invariant-loop-term : goal.invariant-loop-term
invariant-loop-term l = record { held : HoldsAll l.heap l.refs.items; count : length l.refs.items ≡ l.term-index }

use Rattle.std.proofs.Common.{◌≡◌, length}
use Rattle.kh_heap.specs.Heap.{HoldsAll}
use Rattle.kh_heap.proofs.tests.repeated.Given as goal

-- so many references to a term of the heap
abbrev pub invariant-copies : goal.invariant-copies
invariant-copies l = record { held : HoldsAll l.heap l.refs.items; count : length l.refs.items ≡ l.counter }

use Rattle.std.proofs.Common.{◌≡◌, ◌++◌, take}
use Rattle.kh_heap.specs.Heap.{terms_at}
use Rattle.kh_heap.proofs.heap.Heap.push_copies.Given as goal

-- the heap as it was, and a cell for each term so far
abbrev pub invariant-loop-r : goal.invariant-loop-r
invariant-loop-r l = l.self ≡ l.fn.self ++ terms_at l.fn.self (take l.r-index l.refs)

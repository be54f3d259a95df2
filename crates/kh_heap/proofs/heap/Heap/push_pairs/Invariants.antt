use Rattle.std.proofs.Common.{◌≡◌, ◌++◌, take}
use Rattle.kh_heap.specs.Heap.{pairs_at}
use Rattle.kh_heap.specs.Parts.{in_turn}
use Rattle.kh_heap.proofs.heap.Heap.push_pairs.Given as goal

-- the heap as it was, and a cell for each key and value so far
abbrev pub invariant-loop-pair : goal.invariant-loop-pair
invariant-loop-pair l = l.self ≡ l.fn.self ++ in_turn (pairs_at l.fn.self (take l.pair-index l.pairs))

use Rattle.std.proofs.Common.{◌≡◌, ◌<◌, ◌^◌, take}
use Rattle.kh_heap.specs.Cells.{deepest_pair}
use Rattle.kh_heap.specs.Heap.{pairs_at}
use Rattle.kh_heap.proofs.heap.Heap.deepest_pair.Given as goal

-- the greatest depth so far
abbrev pub invariant-loop-pair : goal.invariant-loop-pair
invariant-loop-pair l = record {
  deepest : l.most ≡ deepest_pair (pairs_at l.self (take l.pair-index l.pairs));
  low : l.most < 2 ^ 16;
}

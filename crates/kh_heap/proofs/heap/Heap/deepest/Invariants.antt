use Rattle.std.proofs.Common.{◌≡◌, ◌<◌, ◌^◌, map, take}
use Rattle.kh_term.specs.Size.{depth_of, greatest}
use Rattle.kh_heap.specs.Heap.{terms_at}
use Rattle.kh_heap.proofs.heap.Heap.deepest.Given as goal

-- the greatest depth so far
abbrev pub invariant-loop-r : goal.invariant-loop-r
invariant-loop-r l = record {
  deepest : l.most ≡ greatest (map depth_of (terms_at l.self (take l.r-index l.refs)));
  low : l.most < 2 ^ 16;
}

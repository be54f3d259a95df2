use Rattle.std.proofs.Common.{◌≡◌, ◌+◌, ◌*◌, ◌≤◌, length, map, take, drop}
use Rattle.kh_term.specs.Limits.{most_size, most_depth}
use Rattle.kh_term.specs.Size.{sizes_of, pair_sizes_of, depth_of, greatest}
use Rattle.kh_heap.specs.Cells.{deepest_pair}
use Rattle.kh_heap.specs.Heap.{terms_at, pairs_at, HoldsAll, HoldsPairs, Grew}
use Rattle.kh_heap.proofs.heap.Heap.+load.Given as goal

-- the terms so far stand in the heap, and those that are left are within the bounds
abbrev pub invariant-load_all-loop-tree : goal.invariant-load_all-loop-tree
invariant-load_all-loop-tree l = record {
  held : HoldsAll l.self l.refs.items;
  terms : terms_at l.self l.refs.items ≡ take l.tree-index l.trees;
  grew : Grew l.fn.self l.self;
  cells : length l.self + l.tree-index + 2 * sizes_of (drop l.tree-index l.trees) ≤ length l.fn.self + 2 * sizes_of l.trees;
  few : sizes_of (drop l.tree-index l.trees) ≤ most_size;
  low : greatest (map depth_of (drop l.tree-index l.trees)) ≤ most_depth;
}

abbrev pub invariant-load_pairs-loop-pair : goal.invariant-load_pairs-loop-pair
invariant-load_pairs-loop-pair l = record {
  held : HoldsPairs l.self l.refs.items;
  terms : pairs_at l.self l.refs.items ≡ take l.pair-index l.pairs;
  grew : Grew l.fn.self l.self;
  cells : length l.self + 2 * l.pair-index + 2 * pair_sizes_of (drop l.pair-index l.pairs) ≤ length l.fn.self + 2 * pair_sizes_of l.pairs;
  few : pair_sizes_of (drop l.pair-index l.pairs) ≤ most_size;
  low : deepest_pair (drop l.pair-index l.pairs) ≤ most_depth;
}

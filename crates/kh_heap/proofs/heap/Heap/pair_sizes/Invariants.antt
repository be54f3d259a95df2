use Rattle.std.proofs.Common.{◌≡◌, ◌*◌, ◌≤◌, take}
use Rattle.kh_term.specs.Limits.{most_size}
use Rattle.kh_term.specs.Size.{pair_sizes_of}
use Rattle.kh_heap.specs.Cells.{pair_faults}
use Rattle.kh_heap.specs.Heap.{pairs_at}
use Rattle.kh_heap.proofs.heap.Heap.pair_sizes.Given as goal

-- the keys and values so far: their sizes together, a bound on them, and that they are terms
abbrev pub invariant-loop-pair : goal.invariant-loop-pair
invariant-loop-pair l = record {
  sizes : l.all ≡ pair_sizes_of (pairs_at l.self (take l.pair-index l.pairs));
  few : l.all ≤ l.pair-index * (2 * most_size);
  fit : pair_faults (pairs_at l.self (take l.pair-index l.pairs)) ≡ 0;
}

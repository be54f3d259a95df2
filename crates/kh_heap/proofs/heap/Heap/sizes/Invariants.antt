use Rattle.std.proofs.Common.{◌≡◌, ◌*◌, ◌≤◌, take}
use Rattle.kh_term.specs.Limits.{most_size}
use Rattle.kh_term.specs.Size.{sizes_of}
use Rattle.kh_term.specs.WellFormed.{AreTerms}
use Rattle.kh_heap.specs.Heap.{terms_at}
use Rattle.kh_heap.proofs.heap.Heap.sizes.Given as goal

-- the terms so far: their sizes together, a bound on them, and that they are terms
abbrev pub invariant-loop-r : goal.invariant-loop-r
invariant-loop-r l = record {
  sizes : l.all ≡ sizes_of (terms_at l.self (take l.r-index l.refs));
  few : l.all ≤ l.r-index * most_size;
  fit : AreTerms (terms_at l.self (take l.r-index l.refs));
}

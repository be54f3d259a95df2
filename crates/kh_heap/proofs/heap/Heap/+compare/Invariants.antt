use Rattle.std.proofs.Common.{◌≡◌, ◌+◌, ◌*◌, ◌≤◌, map, drop}
use Rattle.kh_term.specs.Order.{term_cmp, compared, compare_shared}
use Rattle.kh_term.specs.Size.{size_of}
use Rattle.kh_heap.specs.Heap.{term_at, Holds}
use Rattle.kh_heap.specs.Parts.{pairs_in, parts_in, side}
use Rattle.kh_heap.proofs.heap.Heap.+compare.Given as goal

abbrev pub decreases-compare : goal.decreases-compare
decreases-compare l = 4 * size_of (term_at l.self.now l.a) + 3

abbrev pub decreases-compare_ends : goal.decreases-compare_ends
decreases-compare_ends l = 4 * size_of (term_at l.self.now l.x) + 2

abbrev pub decreases-compare_captured : goal.decreases-compare_captured
decreases-compare_captured l = 4 * size_of (term_at l.self.now l.x) + 1

abbrev pub decreases-compare_maps : goal.decreases-compare_maps
decreases-compare_maps l = 4 * size_of (term_at l.self.now l.x) + 1

abbrev pub decreases-compare_parts : goal.decreases-compare_parts
decreases-compare_parts l = 4 * size_of (term_at l.self.now l.x)

abbrev pub decreases-compare_half : goal.decreases-compare_half
decreases-compare_half l = 4 * size_of (term_at l.self.now l.x)

-- what is left of the two decides
abbrev pub invariant-compare-along : goal.invariant-compare-along
invariant-compare-along l = record {
  first : Holds l.self l.x;
  second : Holds l.self l.y;
  smaller : size_of (term_at l.self l.x) ≤ size_of (term_at l.self l.fn.a);
  same : term_cmp (term_at l.self l.x) (term_at l.self l.y) ≡ term_cmp (term_at l.self l.fn.a) (term_at l.self l.fn.b);
}

abbrev pub decreases-compare-along : goal.decreases-compare-along
decreases-compare-along l = size_of (term_at l.self l.x)

-- the parts so far are equal
abbrev pub invariant-compare_parts-loop-i : goal.invariant-compare_parts-loop-i
invariant-compare_parts-loop-i l =
    compare_shared (map compared (drop l.i (parts_in (term_at l.self l.x)))) (drop l.i (parts_in (term_at l.self l.y)))
    ≡ compare_shared (map compared (parts_in (term_at l.self l.x))) (parts_in (term_at l.self l.y))

abbrev pub invariant-compare_half-loop-i : goal.invariant-compare_half-loop-i
invariant-compare_half-loop-i l =
    compare_shared (map compared (drop l.i (map (side l.half) (pairs_in (term_at l.self l.x))))) (drop l.i (map (side l.half) (pairs_in (term_at l.self l.y))))
    ≡ compare_shared (map compared (map (side l.half) (pairs_in (term_at l.self l.x)))) (map (side l.half) (pairs_in (term_at l.self l.y)))

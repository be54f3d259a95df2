use Rattle.std.proofs.Common.{◌≡◌, ◌+◌, ◌*◌, ◌<◌, ◌≤◌, length, take}
use Rattle.kh_term.specs.Size.{size_of}
use Rattle.kh_heap.specs.Cells.{onto}
use Rattle.kh_heap.specs.Heap.{term_at, cons_tree, Holds}
use Rattle.kh_heap.specs.Parts.{in_turn, parts_in}
use Rattle.kh_heap.proofs.heap.Heap.+store.Given as goal

abbrev pub decreases-store_tree : goal.decreases-store_tree
decreases-store_tree l = 2 * size_of (term_at l.self.now l.r) + 1

abbrev pub decreases-store_list : goal.decreases-store_list
decreases-store_list l = 2 * size_of (cons_tree (term_at l.self.now l.head) (term_at l.self.now l.tail))

abbrev pub decreases-store_parts : goal.decreases-store_parts
decreases-store_parts l = 2 * size_of (term_at l.self.now l.r)

abbrev pub decreases-store_pairs : goal.decreases-store_pairs
decreases-store_pairs l = 2 * size_of (term_at l.self.now l.r)

-- the elements so far, in front of what is left
abbrev pub invariant-store_list-loop-first : goal.invariant-store_list-loop-first
invariant-store_list-loop-first l = record {
  held : Holds l.self l.rest;
  some : 0 < length l.parts;
  smaller : size_of (term_at l.self l.rest) ≤ size_of (term_at l.self l.fn.tail);
  same : cons_tree (term_at l.self l.fn.head) (term_at l.self l.fn.tail) ≡ onto l.parts (term_at l.self l.rest);
}

abbrev pub decreases-store_list-loop-first : goal.decreases-store_list-loop-first
decreases-store_list-loop-first l = size_of (term_at l.self l.rest)

-- the parts so far
abbrev pub invariant-store_parts-loop-i : goal.invariant-store_parts-loop-i
invariant-store_parts-loop-i l = l.parts ≡ take l.i (parts_in (term_at l.self l.r))

abbrev pub invariant-store_pairs-loop-i : goal.invariant-store_pairs-loop-i
invariant-store_pairs-loop-i l = in_turn l.pairs ≡ take (2 * l.i) (parts_in (term_at l.self l.r))

use Rattle.std.proofs.Common.{◌≡◌, ◌+◌, ◌*◌, ◌≤◌, ◌++◌, List, ℕ}
use Rattle.std.specs.Prelude.{Some}
use Rattle.kh_term.specs.Size.{size_of}
use Rattle.kh_heap.specs.Heap.{term_at, Holds}
use Rattle.kh_bif_data.specs.Iolists.{iolist}
use Rattle.kh_bif_data.proofs.iolists.+writing.Given as goal

abbrev pub decreases-add_iolist : goal.decreases-add_iolist
decreases-add_iolist l = 2 * size_of (term_at l.heap.now l.r)

abbrev pub decreases-add_piece : goal.decreases-add_piece
decreases-add_piece l = 2 * size_of (term_at l.heap.now l.r) + 1

-- what was written, in front of what is left
abbrev pub invariant-add_iolist-along : goal.invariant-add_iolist-along
invariant-add_iolist-along l = record {
  held : Holds l.heap l.left;
  smaller : size_of (term_at l.heap l.left) ≤ size_of (term_at l.heap l.fn.r);
  so_far :
      (bytes : List ℕ) → iolist (term_at l.heap l.fn.r) ≡ Some bytes
      → (rest : List ℕ) × (iolist (term_at l.heap l.left) ≡ Some rest) × (l.out.items ++ rest ≡ l.fn.out.items ++ bytes);
}

abbrev pub decreases-add_iolist-along : goal.decreases-add_iolist-along
decreases-add_iolist-along l = size_of (term_at l.heap l.left)

use Rattle.std.proofs.Common.{◌≡◌, ◌+◌, ◌*◌, ◌≤◌, length}
use Rattle.std.specs.Prelude.{option_map}
use Rattle.kh_term.specs.Size.{size_of}
use Rattle.kh_heap.specs.Heap.{term_at, Holds}
use Rattle.kh_bif_data.specs.Iolists.{iolist}
use Rattle.kh_bif_data.proofs.iolists.+lengths.Given as goal

abbrev pub decreases-iolist_len : goal.decreases-iolist_len
decreases-iolist_len l = 2 * size_of (term_at l.heap.now l.r)

abbrev pub decreases-piece_len : goal.decreases-piece_len
decreases-piece_len l = 2 * size_of (term_at l.heap.now l.r) + 1

-- the bytes so far, and those that are left
abbrev pub invariant-iolist_len-along : goal.invariant-iolist_len-along
invariant-iolist_len-along l = record {
  held : Holds l.heap l.left;
  few : l.len + 8 * size_of (term_at l.heap l.left) ≤ 8 * size_of (term_at l.heap l.fn.r);
  len :
      option_map (λ bytes. l.len + length bytes) (iolist (term_at l.heap l.left))
      ≡ option_map (λ bytes. length bytes) (iolist (term_at l.heap l.fn.r));
}

abbrev pub decreases-iolist_len-along : goal.decreases-iolist_len-along
decreases-iolist_len-along l = size_of (term_at l.heap l.left)

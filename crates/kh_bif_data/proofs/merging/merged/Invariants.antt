use Rattle.std.proofs.Common.{◌≡◌, ◌+◌, ◌++◌, length}
use Rattle.kh_term.specs.MapOf.{map_with}
use Rattle.kh_heap.specs.Heap.{pairs_at, HoldsPairs}
use Rattle.kh_bif_data.specs.Maps.{ByKeys}
use Rattle.kh_bif_data.proofs.merging.merged.Given as goal

-- the pairs so far, in front of what comes of those that are left
abbrev pub invariant-walk : goal.invariant-walk
invariant-walk l = record {
  held : HoldsPairs l.heap l.all.items;
  left_held : HoldsPairs l.heap l.left;
  right_held : HoldsPairs l.heap l.right;
  left_rises : ByKeys (pairs_at l.heap l.left);
  right_rises : ByKeys (pairs_at l.heap l.right);
  terms :
      pairs_at l.heap l.all.items ++ map_with (pairs_at l.heap l.left) (pairs_at l.heap l.right)
      ≡ map_with (pairs_at l.heap l.fn.first) (pairs_at l.heap l.fn.second);
}

abbrev pub decreases-walk : goal.decreases-walk
decreases-walk l = length l.left + length l.right

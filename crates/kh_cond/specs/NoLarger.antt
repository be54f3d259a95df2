-- What a short spelling takes beside another spelling of the same.
use Rattle.std.specs.Prelude.{◌≤◌, ◌*◌, max, length}
use Rattle.kh_term.specs.declared.limits.TheConstants.{MOST_TEXT_BYTES}
use Rattle.kh_term.specs.declared.tree.TermTree.{TermTree}
use Rattle.kh_term.specs.Packed.{packed_of}
use Rattle.kh_term.specs.Size.{size_of, depth_of, width_of}

-- No larger and no deeper. A text may be wider than the list of its code points, but no wider than any text, and the
-- packed bytes of an empty one are more than those of nil.
pub record IsNoLarger (s t : TermTree) : Type 0 where
  pub size : size_of s ≤ size_of t
  pub depth : depth_of s ≤ depth_of t
  pub width : width_of s ≤ max MOST_TEXT_BYTES (width_of t)
  pub packed : length (packed_of s) ≤ 2 * length (packed_of t)

use Rattle.std.proofs.Common.{◌≡◌, ◌+◌, length}
use Rattle.kh_tree.specs.Nodes.{view_of}
use Rattle.kh_walk.specs.Rows.{AreMarks, IsSeen}
use Rattle.kh_walk.proofs.walk.row_at.Given as goal

-- the marks so far
abbrev pub invariant-loop-i : goal.invariant-loop-i
invariant-loop-i g l = record {
  marks : AreMarks g.P.Patterns.search l.tree l.components l.path l.row;
  long : length l.row ≡ l.i + 1;
  seen : IsSeen l.view (view_of l.tree l.path);
  texts : g.P.Patterns.texts l.patterns ≡ g.P.Patterns.texts l.fn.patterns;
  refusals : g.P.Patterns.refusals l.patterns ≡ g.P.Patterns.refusals l.fn.patterns;
  refused : g.P.Patterns.refused l.patterns ≡ g.P.Patterns.refused l.fn.patterns;
}

use Rattle.std.proofs.Common.{◌≡◌, ◌+◌, length, IsTrue}
use Rattle.std.specs.FinMap.{contains_key}
use Rattle.kh_tree.specs.Nodes.{begins}
use Rattle.kh_walk.specs.Found.{Rise}
use Rattle.kh_walk.specs.Rows.{AreRows}
use Rattle.kh_walk.proofs.Walks.{AreBefore, left_behind}
use Rattle.kh_walk.proofs.walk.walk.Given as goal

-- the nodes before this one were judged, and the rows are those of its fronts
abbrev pub invariant-nodes : goal.invariant-nodes
invariant-nodes g l = record {
  node : IsTrue (contains_key l.tree l.at);
  below : IsTrue (begins l.start l.at);
  before : AreBefore g.P.Patterns.search l.tree l.components l.start l.at l.found;
  rise : Rise l.found;
  rows : AreRows g.P.Patterns.search l.tree l.components l.at l.rows.items;
  long : length l.rows.items ≡ length l.at + 1;
  texts : g.P.Patterns.texts l.patterns ≡ g.P.Patterns.texts l.fn.patterns;
  refusals : g.P.Patterns.refusals l.patterns ≡ g.P.Patterns.refusals l.fn.patterns;
  refused : g.P.Patterns.refused l.patterns ≡ g.P.Patterns.refused l.fn.patterns;
}

-- the nodes that are left
abbrev pub decreases-nodes : goal.decreases-nodes
decreases-nodes g l = left_behind l.tree l.at

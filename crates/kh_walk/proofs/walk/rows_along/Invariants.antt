use Rattle.std.proofs.Common.{◌≡◌, length}
use Rattle.kh_walk.specs.Rows.{AreRows}
use Rattle.kh_walk.proofs.walk.rows_along.Given as goal

-- the rows of the fronts so far
abbrev pub invariant-loop-len : goal.invariant-loop-len
invariant-loop-len g l = record {
  rows : AreRows g.P.Patterns.search l.tree l.components l.path l.rows.items;
  long : length l.rows.items ≡ l.len;
  texts : g.P.Patterns.texts l.patterns ≡ g.P.Patterns.texts l.fn.patterns;
  refusals : g.P.Patterns.refusals l.patterns ≡ g.P.Patterns.refusals l.fn.patterns;
  refused : g.P.Patterns.refused l.patterns ≡ g.P.Patterns.refused l.fn.patterns;
}

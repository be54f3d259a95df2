use Rattle.std.proofs.Common.{◌≡◌, map, sum, drop}
use Rattle.std.specs.List.{list_all}
use Rattle.kh_cond.specs.Holds.{holds}
use Rattle.kh_cond.specs.Texts.{lacking}
use Rattle.kh_tree.specs.Nodes.{view_of}
use Rattle.kh_walk.specs.Rows.{IsSeen}
use Rattle.kh_walk.proofs.judging.all_hold.Given as goal

-- all hold where the others do
abbrev pub invariant-loop-cond : goal.invariant-loop-cond
invariant-loop-cond g l = record {
  ahead : list_all (holds g.P.Patterns.search (view_of l.place.tree.now l.place.path.now)) (drop l.cond-index l.conds)
      ≡ list_all (holds g.P.Patterns.search (view_of l.place.tree.now l.place.path.now)) l.conds;
  prepared : sum (map (lacking (g.P.Patterns.texts l.patterns)) (drop l.cond-index l.conds)) ≡ 0;
  seen : IsSeen l.view (view_of l.place.tree.now l.place.path.now);
  texts : g.P.Patterns.texts l.patterns ≡ g.P.Patterns.texts l.fn.patterns;
  refusals : g.P.Patterns.refusals l.patterns ≡ g.P.Patterns.refusals l.fn.patterns;
  refused : g.P.Patterns.refused l.patterns ≡ g.P.Patterns.refused l.fn.patterns;
}

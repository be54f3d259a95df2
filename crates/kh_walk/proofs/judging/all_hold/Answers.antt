use Rattle.std.proofs.Common.{◌≡◌, ◌+◌, true, map, sum, drop, sym, subst, ◌∙◌, arith}
use Rattle.std.specs.List.{list_all}
use Rattle.kh_cond.specs.Holds.{holds}
use Rattle.kh_cond.specs.Texts.{lacking}
use Rattle.kh_tree.specs.Nodes.{view_of}
use Rattle.kh_walk.proofs.Judged.{all_next, lacking_here, lacking_next}
use Rattle.kh_walk.proofs.judging.all_hold.Goals as goal

pub holds-requires-clause-prepared : goal.holds-requires-clause-prepared
holds-requires-clause-prepared g c =
    lacking_here (g.P.Patterns.texts c.loop-cond.patterns) c.args.conds.now c.loop-cond.cond-index c.cond-item.result c.loop-cond-test.true c.cond-item.is c.loop-cond.invariant.prepared

pub loop-cond-preserved : goal.loop-cond-preserved
loop-cond-preserved g c =
    let holds_here = holds g.P.Patterns.search (view_of c.args.place.now.tree.now c.args.place.now.path.now) in
    let known = g.P.Patterns.texts c.loop-cond.patterns in
    let this : holds_here c.cond-item.result ≡ true = grind (arith, c.in_ok-holds.ensures.holds, c.if-not-branch.false) in
    let rest : sum (map (lacking known) (drop (c.loop-cond.cond-index + 1) c.args.conds.now)) ≡ 0 =
    omega (arith, c.loop-cond.invariant.prepared, lacking_next known c.args.conds.now c.loop-cond.cond-index c.cond-item.result c.loop-cond-test.true) in
    record {
      ahead = sym (all_next holds_here c.args.conds.now c.loop-cond.cond-index c.cond-item.result c.loop-cond-test.true c.cond-item.is this) ∙ c.loop-cond.invariant.ahead;
      prepared = subst (λ k. sum (map (lacking k) (drop (c.loop-cond.cond-index + 1) c.args.conds.now)) ≡ 0) (sym c.in_ok-holds.ensures.engine.0) rest;
      seen = c.in_ok-holds.ensures.seen;
      texts = c.in_ok-holds.ensures.engine.0 ∙ c.loop-cond.invariant.texts;
      refusals = c.in_ok-holds.ensures.engine.1 ∙ c.loop-cond.invariant.refusals;
      refused = c.in_ok-holds.ensures.engine.2 ∙ c.loop-cond.invariant.refused;
    }

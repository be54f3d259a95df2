use Rattle.std.proofs.Common.{◌≡◌, ◌+◌, true, false, map, sum, drop, ap, sym, subst, ◌∙◌, arith}
use Rattle.std.specs.List.{list_all, list_any}
use Rattle.std.specs.Option.{option_copied}
use Rattle.kh_cond.specs.Holds.{holds}
use Rattle.kh_cond.specs.Texts.{lacking}
use Rattle.kh_cond.proofs.CondLayers.{holds-All, holds-Any, all_next, any_next, lacking-drop}
use Rattle.kh_cond.proofs.judging.+judging.Goals as goal

pub judge-returns-in_ok-all_hold-in-All-clause-holds : goal.judge-returns-in_ok-all_hold-in-All-clause-holds
judge-returns-in_ok-all_hold-in-All-clause-holds g t c =
    let holds_here = holds g.P.Patterns.search (option_copied c.args.view) in
    c.in_ok-all_hold-in-All.ensures.holds ∙ (ap (list_all holds_here) c.as_slice.ensures
    ∙ (sym (holds-All g.P.Patterns.search (option_copied c.args.view) c.in-All.parts) ∙ ap holds_here (sym c.in-All.is)))

pub judge-returns-in_ok-any_holds-in-Any-clause-holds : goal.judge-returns-in_ok-any_holds-in-Any-clause-holds
judge-returns-in_ok-any_holds-in-Any-clause-holds g t c =
    let holds_here = holds g.P.Patterns.search (option_copied c.args.view) in
    c.in_ok-any_holds-in-Any.ensures.holds ∙ (ap (list_any holds_here) c.as_slice-in-Any.ensures
    ∙ (sym (holds-Any g.P.Patterns.search (option_copied c.args.view) c.in-Any.parts) ∙ ap holds_here (sym c.in-Any.is)))

pub all_hold-loop-part-preserved : goal.all_hold-loop-part-preserved
all_hold-loop-part-preserved g t c =
    let holds_here = holds g.P.Patterns.search (option_copied c.args.view) in
    let known = g.P.Patterns.texts c.loop-part.patterns in
    let this : holds_here c.part-item.result ≡ true = grind (arith, c.in_ok-judge.ensures.holds, c.if-not-branch.false) in
    let rest : sum (map (lacking known) (drop (c.loop-part.part-index + 1) c.args.parts.now)) ≡ 0 =
    omega (arith, c.loop-part.invariant.prepared, lacking-drop known c.args.parts.now c.loop-part.part-index c.part-item.result c.loop-part-test.true) in
    record {
      ahead = sym (all_next holds_here c.args.parts.now c.loop-part.part-index c.part-item.result c.loop-part-test.true c.part-item.is this) ∙ c.loop-part.invariant.ahead;
      prepared = subst (λ k. sum (map (lacking k) (drop (c.loop-part.part-index + 1) c.args.parts.now)) ≡ 0) (sym c.in_ok-judge.ensures.engine.0) rest;
      texts = c.in_ok-judge.ensures.engine.0 ∙ c.loop-part.invariant.texts;
      refusals = c.in_ok-judge.ensures.engine.1 ∙ c.loop-part.invariant.refusals;
      refused = c.in_ok-judge.ensures.engine.2 ∙ c.loop-part.invariant.refused;
    }

pub any_holds-loop-part-preserved : goal.any_holds-loop-part-preserved
any_holds-loop-part-preserved g t c =
    let holds_here = holds g.P.Patterns.search (option_copied c.args.view) in
    let known = g.P.Patterns.texts c.loop-part.patterns in
    let this : holds_here c.part-item.result ≡ false = grind (arith, c.in_ok-judge.ensures.holds, c.if-branch.false) in
    let rest : sum (map (lacking known) (drop (c.loop-part.part-index + 1) c.args.parts.now)) ≡ 0 =
    omega (arith, c.loop-part.invariant.prepared, lacking-drop known c.args.parts.now c.loop-part.part-index c.part-item.result c.loop-part-test.true) in
    record {
      ahead = sym (any_next holds_here c.args.parts.now c.loop-part.part-index c.part-item.result c.loop-part-test.true c.part-item.is this) ∙ c.loop-part.invariant.ahead;
      prepared = subst (λ k. sum (map (lacking k) (drop (c.loop-part.part-index + 1) c.args.parts.now)) ≡ 0) (sym c.in_ok-judge.ensures.engine.0) rest;
      texts = c.in_ok-judge.ensures.engine.0 ∙ c.loop-part.invariant.texts;
      refusals = c.in_ok-judge.ensures.engine.1 ∙ c.loop-part.invariant.refusals;
      refused = c.in_ok-judge.ensures.engine.2 ∙ c.loop-part.invariant.refused;
    }

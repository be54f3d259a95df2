use Rattle.std.proofs.Common.{◌≡◌, false, sym, subst}
use Rattle.kh_walk.specs.Found.{AreMatching}
use Rattle.kh_walk.specs.Front.{BeginsWith}
use Rattle.kh_walk.specs.Walked.{AreBelow}
use Rattle.kh_walk.proofs.Below.{from_below, none_match}
use Rattle.kh_walk.proofs.matches.matching.Goals as goal

pub returns-clause-matching : goal.returns-clause-matching
returns-clause-matching g c =
    let begins : BeginsWith c.args.q.now c.in_ok-start.start = subst (λ cs. BeginsWith cs c.in_ok-start.start) c.components-components.ensures.components c.in_ok-start.ensures in
    subst (AreMatching g.P.Patterns.search c.args.tree.now c.args.q.now) (sym c.new.ensures)
    (none_match g.P.Patterns.search c.args.tree.now c.parents_stand.ensures c.args.q.now c.in_ok-start.start begins (sym c.in-None.ensures.node))

pub returns-in-Some-clause-matching : goal.returns-in-Some-clause-matching
returns-in-Some-clause-matching g c =
    let begins : BeginsWith c.args.q.now c.in_ok-start.start = subst (λ cs. BeginsWith cs c.in_ok-start.start) c.components-components.ensures.components c.in_ok-start.ensures in
    let found : AreBelow g.P.Patterns.search c.args.tree.now c.args.q.now c.in_ok-start.start c.in_ok-walk-in-Some.field-0 =
    subst (λ cs. AreBelow g.P.Patterns.search c.args.tree.now cs c.in_ok-start.start c.in_ok-walk-in-Some.field-0) c.components-components.ensures.components c.in_ok-walk-in-Some.ensures.below in
    from_below g.P.Patterns.search c.args.tree.now c.parents_stand.ensures c.args.q.now c.in_ok-start.start begins c.in_ok-walk-in-Some.field-0 found

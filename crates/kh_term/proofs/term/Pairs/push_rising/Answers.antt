use Rattle.kh_term.proofs.Places.{pushed_or_not}
use Rattle.kh_term.proofs.term.Pairs.push_rising.Goals as goal

pub invariant_of-self : goal.invariant_of-self
invariant_of-self c =
    record { fit = pushed_or_not c.push.result _ _ c.args.key c.args.value c.args.self.now.fit c.requires c.push.ensures.ok c.push.ensures.err }

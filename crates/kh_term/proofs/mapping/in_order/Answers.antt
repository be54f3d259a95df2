use Rattle.std.proofs.Common.{◌++◌, append-nil, ap, sym, ◌∙◌, subst}
use Rattle.kh_term.specs.MapOf.{trees_of}
use Rattle.kh_term.specs.WellFormed.{ArePairs}
use Rattle.kh_term.proofs.MapRead.{pairs_fit}
use Rattle.kh_term.proofs.mapping.in_order.Goals as goal

-- all entries were taken, and they stand by rising keys
pub invariant_of-result : goal.invariant_of-result
invariant_of-result c =
    let none = c.in-None.ensures.steps.0 in
    let all = sym (append-nil c.loop-key.nodes) ∙ (sym (ap (λ es. c.loop-key.nodes ++ trees_of es) none) ∙ c.loop-key.invariant) in
    record { fit = subst ArePairs (sym all) (pairs_fit c.args.kept.entries c.into_iter-key-iterator.ensures.into_iter_gives.5) }

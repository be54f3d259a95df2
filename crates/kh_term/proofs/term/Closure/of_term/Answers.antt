use Rattle.std.proofs.Common.{nat_le, IsTrue, length, ap, sym, ◌∙◌, subst}
use Rattle.std.proofs.lemmas.Bool.{and_parts}
use Rattle.kh_term.specs.WellFormed.{IsTerm}
use Rattle.kh_term.specs.Lemmas.Fits.{origin_of_closure}
use Rattle.kh_term.proofs.term.Closure.of_term.Goals as goal

-- the copies are of a function that captures no more than its arity
pub invariant_of-result : goal.invariant_of-result
invariant_of-result c =
    let whole = origin_of_closure c.in-Closure.origin c.in-Closure.env (subst IsTerm c.in-Closure.is c.args.term.now.fits) in
    let arity = ap (λ o. o.arity) c.in_ok-module-in-Closure.ensures in
    let captured = ap length (c.in_ok-env-in-Closure.ensures ∙ c.as_slice.ensures) in
    record {
      captured = subst (λ n. IsTrue (nat_le n c.in_ok-module-in-Closure.field-0.arity)) (sym captured)
          (subst (λ a. IsTrue (nat_le (length c.in-Closure.env) a)) (sym arity) (and_parts _ _ whole).1);
    }

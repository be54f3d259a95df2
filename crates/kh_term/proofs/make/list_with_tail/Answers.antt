use Rattle.std.proofs.Common.{subst, sym}
use Rattle.kh_term.specs.declared.tree.TermTree.TheVariants as tree
use Rattle.kh_term.specs.WellFormed.{IsTerm}
use Rattle.kh_term.specs.Lemmas.Fits.{fits_in_front}
use Rattle.kh_term.proofs.make.list_with_tail.Goals as goal

pub invariant_of-result : goal.invariant_of-result
invariant_of-result c =
    let joined = fits_in_front c.args.parts.nodes c.in-List.more c.in-List.tail c.args.parts.fit (subst IsTerm c.in-List.is c.args.tail.fits) in
    record { fits = subst (λ ts. IsTerm (tree.List ts c.in-List.tail)) (sym c.in_ok-append-in-List.ensures) joined }

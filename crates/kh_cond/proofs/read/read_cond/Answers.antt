use Rattle.std.proofs.Common.{◌∙◌, sym, refl}
use Rattle.std.proofs.lemmas.Option.{none-some}
use Rattle.kh_cond.proofs.Complete.{cond_read}
use Rattle.kh_cond.proofs.Sound.{sound}
use Rattle.kh_cond.proofs.read.read_cond.Goals as goal

pub returns-in-Some-clause-ok : goal.returns-in-Some-clause-ok
returns-in-Some-clause-ok c = (sound c.args.term.now.node c.args.term.now.fits).0 c.in-Some.cond (sym c.in_ok-cond.ensures ∙ c.in-Some.is)

pub returns-in-None-clause-bad : goal.returns-in-None-clause-bad
returns-in-None-clause-bad c =
    (refl, λ d s. none-some d (sym c.in-None.is ∙ (c.in_ok-cond.ensures ∙ cond_read c.args.term.now.node d s)))

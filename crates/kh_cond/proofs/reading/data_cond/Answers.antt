use Rattle.std.proofs.Common.{ap, sym}
use Rattle.kh_term.proofs.Same.{whole_is}
use Rattle.kh_cond.specs.declared.cond.Cond.TheVariants as cond
use Rattle.kh_cond.proofs.reading.data_cond.Goals as goal

pub returns : goal.returns
returns c = ap cond.DataMatches (sym (whole_is c.in_ok-pattern.pattern c.args.pattern.now c.in_ok-pattern.ensures))

use Rattle.kh_cond.proofs.Smaller.{smaller}
use Rattle.kh_cond.proofs.laws.short_is_no_larger.Goals as goal

pub returns : goal.returns
returns c = smaller

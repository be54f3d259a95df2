use Rattle.kh_cond.proofs.Smaller.{pattern_smaller}
use Rattle.kh_cond.proofs.laws.short_pattern_is_no_larger.Goals as goal

pub returns : goal.returns
returns c = pattern_smaller

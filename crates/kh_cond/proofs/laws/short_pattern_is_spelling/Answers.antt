use Rattle.kh_cond.proofs.PatternLaws.{pattern_short}
use Rattle.kh_cond.proofs.laws.short_pattern_is_spelling.Goals as goal

pub returns : goal.returns
returns c = pattern_short

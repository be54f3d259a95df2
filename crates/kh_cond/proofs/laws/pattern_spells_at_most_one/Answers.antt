use Rattle.kh_cond.proofs.PatternLaws.{one_pattern}
use Rattle.kh_cond.proofs.laws.pattern_spells_at_most_one.Goals as goal

pub returns : goal.returns
returns c = one_pattern

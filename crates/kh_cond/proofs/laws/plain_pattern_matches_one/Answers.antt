use Rattle.kh_cond.proofs.WildLaws.{plain_only}
use Rattle.kh_cond.proofs.laws.plain_pattern_matches_one.Goals as goal

pub returns : goal.returns
returns c = plain_only

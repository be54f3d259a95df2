use Rattle.kh_cond.proofs.WildLaws.{itself}
use Rattle.kh_cond.proofs.laws.each_matches_itself.Goals as goal

pub returns : goal.returns
returns c = itself

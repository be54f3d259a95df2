use Rattle.kh_cond.proofs.LawLemmas.{underscore}
use Rattle.kh_cond.proofs.laws.underscore_matches_all.Goals as goal

pub returns : goal.returns
returns c = underscore

use Rattle.kh_walk.proofs.LawLemmas.{any_below}
use Rattle.kh_walk.proofs.laws.any_matches_all_below.Goals as goal

pub returns : goal.returns
returns g c = any_below _

use Rattle.kh_walk.proofs.ExactLaw.{exact_target}
use Rattle.kh_walk.proofs.laws.exact_matches_target.Goals as goal

pub returns : goal.returns
returns g c = exact_target _

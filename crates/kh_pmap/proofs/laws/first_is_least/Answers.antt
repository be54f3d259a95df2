use Rattle.kh_pmap.proofs.Following.{first_is_least}
use Rattle.kh_pmap.proofs.laws.first_is_least.Goals as goal

pub returns : goal.returns
returns g c = first_is_least g.met.K.Ord.total

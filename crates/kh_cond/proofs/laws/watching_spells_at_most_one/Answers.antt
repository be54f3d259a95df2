use Rattle.kh_cond.proofs.WatchLaws.{one_watching}
use Rattle.kh_cond.proofs.laws.watching_spells_at_most_one.Goals as goal

pub returns : goal.returns
returns c = one_watching

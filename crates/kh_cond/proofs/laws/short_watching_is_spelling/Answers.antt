use Rattle.kh_cond.proofs.WatchLaws.{watching_short}
use Rattle.kh_cond.proofs.laws.short_watching_is_spelling.Goals as goal

pub returns : goal.returns
returns c = watching_short

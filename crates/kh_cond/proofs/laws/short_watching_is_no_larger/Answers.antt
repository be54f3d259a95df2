use Rattle.kh_cond.proofs.WatchSmaller.{watching_smaller}
use Rattle.kh_cond.proofs.laws.short_watching_is_no_larger.Goals as goal

pub returns : goal.returns
returns c = watching_smaller

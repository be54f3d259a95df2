use Rattle.kh_cond.proofs.LawLemmas.{empty_all}
use Rattle.kh_cond.proofs.laws.empty_all_holds.Goals as goal

pub returns : goal.returns
returns c = empty_all

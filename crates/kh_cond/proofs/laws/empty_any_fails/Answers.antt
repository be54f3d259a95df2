use Rattle.kh_cond.proofs.LawLemmas.{empty_any}
use Rattle.kh_cond.proofs.laws.empty_any_fails.Goals as goal

pub returns : goal.returns
returns c = empty_any

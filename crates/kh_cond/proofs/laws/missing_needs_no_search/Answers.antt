use Rattle.kh_cond.proofs.LawLemmas.{alike}
use Rattle.kh_cond.proofs.laws.missing_needs_no_search.Goals as goal

pub returns : goal.returns
returns c = alike

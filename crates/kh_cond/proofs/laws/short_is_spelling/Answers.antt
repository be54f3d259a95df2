use Rattle.kh_cond.proofs.LawLemmas.{short}
use Rattle.kh_cond.proofs.laws.short_is_spelling.Goals as goal

pub returns : goal.returns
returns c = short

use Rattle.kh_cond.proofs.LawLemmas.{not_turns_round}
use Rattle.kh_cond.proofs.laws.not_turns.Goals as goal

pub returns : goal.returns
returns c = not_turns_round

use Rattle.kh_term.proofs.Same.{same_exactly}
use Rattle.kh_term.proofs.laws.equal_is_same.Goals as goal

pub returns : goal.returns
returns c = same_exactly

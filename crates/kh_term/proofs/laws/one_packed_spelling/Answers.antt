use Rattle.kh_term.proofs.Spelling.{one_spelling}
use Rattle.kh_term.proofs.laws.one_packed_spelling.Goals as goal

pub returns : goal.returns
returns c = one_spelling

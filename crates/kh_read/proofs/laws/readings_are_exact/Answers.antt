use Rattle.kh_read.proofs.TextAll.{exact}
use Rattle.kh_read.proofs.laws.readings_are_exact.Goals as goal

pub returns : goal.returns
returns c = exact

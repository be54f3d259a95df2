use Rattle.kh_read.proofs.Stands.{at_most_one_form}
use Rattle.kh_read.proofs.read.at_most_one_form.Goals as goal

pub returns : goal.returns
returns c = at_most_one_form

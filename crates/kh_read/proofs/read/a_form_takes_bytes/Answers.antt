use Rattle.kh_read.proofs.Place.{form_shorter}
use Rattle.kh_read.proofs.read.a_form_takes_bytes.Goals as goal

pub returns : goal.returns
returns c = form_shorter

use Rattle.kh_read.proofs.Grows.{form_grows}
use Rattle.kh_read.proofs.read.later_bytes_change_nothing.Goals as goal

pub returns : goal.returns
returns c = form_grows

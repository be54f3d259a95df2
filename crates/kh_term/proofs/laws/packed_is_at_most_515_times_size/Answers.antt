use Rattle.kh_term.proofs.Bounds.{packed_le_size}
use Rattle.kh_term.proofs.laws.packed_is_at_most_515_times_size.Goals as goal

pub returns : goal.returns
returns c = λ x. packed_le_size x.node x.fits

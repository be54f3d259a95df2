use Rattle.kh_term.proofs.Bounds.{depth_le_size}
use Rattle.kh_term.proofs.laws.depth_is_at_most_size.Goals as goal

pub returns : goal.returns
returns c = λ x. depth_le_size x.node x.fits

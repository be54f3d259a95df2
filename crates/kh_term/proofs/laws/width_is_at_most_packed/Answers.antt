use Rattle.kh_term.proofs.Bounds.{width_le_packed}
use Rattle.kh_term.proofs.laws.width_is_at_most_packed.Goals as goal

pub returns : goal.returns
returns c = λ x. width_le_packed x.node

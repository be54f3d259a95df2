use Rattle.kh_term.proofs.Bounds.{size_le_packed}
use Rattle.kh_term.proofs.laws.size_is_at_most_twice_packed.Goals as goal

pub returns : goal.returns
returns c = λ x. size_le_packed x.node

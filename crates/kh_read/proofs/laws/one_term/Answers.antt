use Rattle.kh_text_defs.specs.Spelled.{within_limits}
use Rattle.kh_read.proofs.TextOne as law
use Rattle.kh_read.proofs.laws.one_term.Goals as goal

pub returns : goal.returns
returns c = λ mode levels text t u h k. law.one_term (within_limits mode) levels text t u h k

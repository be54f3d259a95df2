use Rattle.kh_term.proofs.ReadBack.{origin_reads, origin_back}
use Rattle.kh_term.proofs.laws.origins_read_back.Goals as goal

pub returns : goal.returns
returns c = λ x o. (origin_reads x.node o, λ h. origin_back x.node o h)

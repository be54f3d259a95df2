use Rattle.kh_term.proofs.ReadBack.{path_reads, path_back}
use Rattle.kh_term.proofs.laws.paths_read_back.Goals as goal

pub returns : goal.returns
returns c = λ x p. (path_reads x p, λ h. path_back x.node p h)

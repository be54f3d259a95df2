use Rattle.kh_term.proofs.PathLemmas.{path_as_term}
use Rattle.kh_term.proofs.laws.paths_compare_as_terms.Goals as goal

pub returns : goal.returns
returns c = path_as_term

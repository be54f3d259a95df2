use Rattle.kh_term.proofs.PathLemmas.{name_as_term}
use Rattle.kh_term.proofs.laws.names_compare_as_terms.Goals as goal

pub returns : goal.returns
returns c = name_as_term

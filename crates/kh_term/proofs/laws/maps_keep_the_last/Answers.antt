use Rattle.kh_term.proofs.MapRead.{last_counts}
use Rattle.kh_term.proofs.laws.maps_keep_the_last.Goals as goal

pub returns : goal.returns
returns c = last_counts

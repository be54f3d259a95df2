use Rattle.kh_bif_data.proofs.MapLaws.{found_is_what_was_put}
use Rattle.kh_bif_data.proofs.laws.found_is_what_was_put.Goals as goal

pub returns : goal.returns
returns c = found_is_what_was_put

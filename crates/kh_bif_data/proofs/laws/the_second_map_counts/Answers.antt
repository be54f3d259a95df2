use Rattle.kh_bif_data.proofs.MapLaws.{the_second_map_counts}
use Rattle.kh_bif_data.proofs.laws.the_second_map_counts.Goals as goal

pub returns : goal.returns
returns c = the_second_map_counts

use Rattle.kh_bif_data.proofs.MapLaws.{one_map_of_each_look_up}
use Rattle.kh_bif_data.proofs.laws.one_map_of_each_look_up.Goals as goal

pub returns : goal.returns
returns c = one_map_of_each_look_up

use Rattle.kh_bif_data.proofs.MapLaws.{only_the_key_is_removed}
use Rattle.kh_bif_data.proofs.laws.only_the_key_is_removed.Goals as goal

pub returns : goal.returns
returns c = only_the_key_is_removed

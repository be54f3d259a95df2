use Rattle.kh_bif_data.proofs.Byted.{iolists_have_their_bytes}
use Rattle.kh_bif_data.proofs.laws.iolists_have_their_bytes.Goals as goal

pub returns : goal.returns
returns c = iolists_have_their_bytes

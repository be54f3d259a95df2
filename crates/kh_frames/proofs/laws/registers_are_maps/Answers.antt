use Rattle.kh_frames.proofs.Ends.{registers_are_maps}
use Rattle.kh_frames.proofs.laws.registers_are_maps.Goals as goal

pub returns : goal.returns
returns g c = registers_are_maps

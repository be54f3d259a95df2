use Rattle.kh_read.proofs.TextStays.{stays}
use Rattle.kh_read.proofs.laws.readings_stay.Goals as goal

pub returns : goal.returns
returns c = stays

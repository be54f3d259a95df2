use Rattle.kh_instr.proofs.RoundTrip.{all_read_back}
use Rattle.kh_instr.proofs.laws.instructions_read_back.Goals as goal

pub returns : goal.returns
returns c = all_read_back

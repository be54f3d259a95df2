use Rattle.kh_read.proofs.Frames.{popped}
use Rattle.kh_read.proofs.state.pop.Goals as goal

pub returns : goal.returns
returns c = popped c.pop.result c.args.frames.now c.pop.new.self c.pop.ensures

use Rattle.std.proofs.Common.{arith}
use Rattle.kh_io.proofs.Recordings.{given_le_cost}
use Rattle.kh_io.proofs.recorder.Recorder.give.Goals as goal

pub append-requires : goal.append-requires
append-requires c = let fits = rw (← c.self.view_is) at c.requires in grind (arith, given_le_cost)

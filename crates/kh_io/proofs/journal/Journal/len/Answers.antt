use Rattle.std.proofs.Common.{arith}
use Rattle.kh_io.proofs.Calls.{length-calls_of}
use Rattle.kh_io.proofs.journal.Journal.len.Goals as goal

pub returns : goal.returns
returns c = rw (← c.self.view_is, length-calls_of) (grind arith)

use Rattle.std.proofs.Common.{arith}
use Rattle.kh_io.proofs.Calls.{cost-calls_of}
use Rattle.kh_io.proofs.journal.Journal.fits.Goals as goal

pub returns-then-free-ge-PER_CALL : goal.returns-then-free-ge-PER_CALL
returns-then-free-ge-PER_CALL c = rw (← c.self.view_is, cost-calls_of _ _ c.self.invariant.0) (grind arith)

pub returns-else-free-ge-PER_CALL : goal.returns-else-free-ge-PER_CALL
returns-else-free-ge-PER_CALL c = rw (← c.self.view_is, cost-calls_of _ _ c.self.invariant.0) (grind arith)

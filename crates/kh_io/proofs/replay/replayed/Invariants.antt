use Rattle.kh_io.proofs.Replays.{Midway}
use Rattle.kh_io.proofs.replay.replayed.Given as goal

abbrev pub invariant-loop-entry : goal.invariant-loop-entry
invariant-loop-entry l = Midway l.file l.first l.entries l.bytes l.entry-index l.from l.replay

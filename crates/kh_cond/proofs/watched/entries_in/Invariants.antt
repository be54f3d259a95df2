use Rattle.std.proofs.Common.{◌≡◌, drop}
use Rattle.kh_cond.specs.Reading.{in_front}
use Rattle.kh_cond.specs.Watched.{entries_in}
use Rattle.kh_cond.proofs.watched.entries_in.Given as goal

abbrev pub invariant-loop-pair : goal.invariant-loop-pair
invariant-loop-pair l = in_front l.entries.items (entries_in (drop l.pair-index l.pairs)) ≡ entries_in l.pairs

use Rattle.std.proofs.Common.{◌≡◌, ◌++◌, drop}
use Rattle.kh_cond.specs.Watched.{watching_texts}
use Rattle.kh_cond.proofs.watched.push_watching_texts.Given as goal

abbrev pub invariant-loop-entry : goal.invariant-loop-entry
invariant-loop-entry l = l.more.items ++ watching_texts (drop l.entry-index l.entry-items) ≡ watching_texts l.entry-items

use Rattle.std.proofs.Common.{◌≡◌, map, take}
use Rattle.kh_cond.specs.Short.{cond_tree}
use Rattle.kh_cond.specs.Watched.{watched_tree}
use Rattle.kh_cond.proofs.watched.watching_term.Given as goal

abbrev pub invariant-loop-entry : goal.invariant-loop-entry
invariant-loop-entry l = l.pairs.nodes ≡ map (λ e. (watched_tree e.0, cond_tree e.1)) (take l.entry-index l.entry-items)

use Rattle.std.proofs.Common.{◌≡◌, ◌++◌, map, take}
use Rattle.kh_term.specs.Make.{name_tree}
use Rattle.kh_cond.specs.Watched.{start_terms}
use Rattle.kh_cond.proofs.watched.watched_term.Given as goal

abbrev pub invariant-loop-name : goal.invariant-loop-name
invariant-loop-name l = l.terms.nodes ≡ start_terms l.path.0 ++ map name_tree (take l.name-index l.name-items)

use Rattle.std.proofs.Common.{◌≡◌, take, map}
use Rattle.kh_term.specs.Make.{name_tree}
use Rattle.kh_term.proofs.make.path_term.Given as goal

abbrev pub invariant-loop-name : goal.invariant-loop-name
invariant-loop-name l = l.terms.nodes ≡ map name_tree (take l.name-index l.name-items)

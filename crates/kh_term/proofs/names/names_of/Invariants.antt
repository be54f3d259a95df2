use Rattle.std.proofs.Common.{◌≡◌, drop}
use Rattle.kh_term.specs.Parts.{names_of}
use Rattle.kh_term.proofs.NamesRead.{ahead}
use Rattle.kh_term.proofs.names.names_of.Given as goal

abbrev pub invariant-loop-tree : goal.invariant-loop-tree
invariant-loop-tree l = ahead l.names (names_of (drop l.tree-index l.trees)) ≡ names_of l.trees

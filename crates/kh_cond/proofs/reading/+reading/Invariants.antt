use Rattle.std.proofs.Common.{◌≡◌, drop}
use Rattle.kh_cond.specs.Reading.{in_front, each_in}
use Rattle.kh_cond.proofs.reading.+reading.Given as goal

abbrev pub invariant-each_in-loop-tree : goal.invariant-each_in-loop-tree
invariant-each_in-loop-tree l = in_front l.all (each_in (drop l.tree-index l.trees)) ≡ each_in l.trees

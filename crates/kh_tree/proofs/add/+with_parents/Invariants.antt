use Rattle.std.proofs.Common.{length}
use Rattle.kh_tree.proofs.add.+with_parents.Given as goal

-- the parent's path is shorter
abbrev pub decreases-with_parents : goal.decreases-with_parents
decreases-with_parents g l = length l.path.now

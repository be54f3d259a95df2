use Rattle.std.proofs.Common.{◌≡◌, ◌++◌, map, take}
use Rattle.kh_cond.specs.Short.{cond_tree}
use Rattle.kh_cond.proofs.printing.+printing.Given as goal

abbrev pub invariant-push_conds-loop-cond : goal.invariant-push_conds-loop-cond
invariant-push_conds-loop-cond l = l.into.nodes ≡ l.fn.into.nodes ++ map cond_tree (take l.cond-index l.conds)

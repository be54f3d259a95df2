use Rattle.std.proofs.Common.{◌≡◌, ◌++◌, drop}
use Rattle.std.specs.List.{flat_map}
use Rattle.kh_cond.specs.Texts.{texts_of}
use Rattle.kh_cond.proofs.texts.+collecting.Given as goal

abbrev pub invariant-collect_each-loop-cond : goal.invariant-collect_each-loop-cond
invariant-collect_each-loop-cond l = l.all.items ++ flat_map texts_of (drop l.cond-index l.conds) ≡ l.fn.all.items ++ flat_map texts_of l.conds

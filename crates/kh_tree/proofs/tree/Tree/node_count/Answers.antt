use Rattle.std.proofs.Common.{◌-◌, ap, ◌∙◌, arith}
use Rattle.kh_tree.specs.Entries.{none_to_come}
use Rattle.kh_tree.specs.Nodes.{node_count}
use Rattle.kh_tree.proofs.Calls.{count_read}
use Rattle.kh_tree.proofs.Written.{some_node}
use Rattle.kh_tree.proofs.tree.Tree.node_count.Goals as goal

pub overflow_sub-result : goal.overflow_sub-result
overflow_sub-result g c = let some = some_node c.self.inside.map none_to_come c.self.invariant in omega (arith, some, c.len.ensures.entries)

pub returns : goal.returns
returns g c = ap (λ n. n - 1) c.len.ensures.entries ∙ count_read c.self.inside.map c.self.invariant ∙ ap node_count c.self.view_is

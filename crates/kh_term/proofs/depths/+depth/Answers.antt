use Rattle.std.proofs.Common.{rules, sym, ◌∙◌}
use Rattle.kh_term.specs.declared.tree.TermTree.TheViews.{the_lemmas}
use Rattle.kh_term.proofs.Layers.{deep-Tuple, deep-Closure, deep-List, deep-tail, deep-Map}
use Rattle.kh_term.proofs.depths.+depth.Goals as goal

pub tree_depth-tree_depth-behind-requires : goal.tree_depth-tree_depth-behind-requires
tree_depth-tree_depth-behind-requires t c =
    (search (rules, the_lemmas), deep-tail _ _ _ c.get.result.now _ _ c.in-List.is c.get.ensures c.get-else-is_nil.ensures (sym c.if-is_nil.false ∙ c.is_nil.ensures) c.requires)

pub tree_depth-deepest-requires : goal.tree_depth-deepest-requires
tree_depth-deepest-requires t c = (search (rules, the_lemmas), deep-List _ _ _ _ _ c.in-List.is c.as_slice.ensures c.requires)

pub tree_depth-deepest-requires-in-Tuple : goal.tree_depth-deepest-requires-in-Tuple
tree_depth-deepest-requires-in-Tuple t c =
    (search (rules, the_lemmas), deep-Tuple _ _ _ _ c.in-Tuple.is c.as_slice-in-Tuple.ensures c.requires)

pub tree_depth-deepest_pair-requires : goal.tree_depth-deepest_pair-requires
tree_depth-deepest_pair-requires t c =
    (search (rules, the_lemmas), deep-Map _ _ _ _ c.in-Map.is c.as_slice-in-Map.ensures c.requires)

pub tree_depth-deepest-requires-in-Closure : goal.tree_depth-deepest-requires-in-Closure
tree_depth-deepest-requires-in-Closure t c =
    (search (rules, the_lemmas), deep-Closure _ _ _ _ _ c.in-Closure.is c.as_slice-in-Closure.ensures c.requires)

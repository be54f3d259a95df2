use Rattle.std.proofs.Common.{rules}
use Rattle.kh_term.specs.declared.tree.TermTree.TheViews.{the_lemmas}
use Rattle.kh_term.proofs.Lengths.{key_len_fits, value_len_fits, short-Tuple, short-Closure, short-List, short-Map}
use Rattle.kh_term.proofs.packed_lens.+packed_len.Goals as goal

pub pairs_len-tree_packed_len-key-requires : goal.pairs_len-tree_packed_len-key-requires
pairs_len-tree_packed_len-key-requires t c =
    (search (rules, the_lemmas), key_len_fits _ _ _ _ c.pair-item.result c.loop-pair-test.true c.pair-item.is c.loop-pair.invariant c.requires)

pub pairs_len-tree_packed_len-value-requires : goal.pairs_len-tree_packed_len-value-requires
pairs_len-tree_packed_len-value-requires t c =
    (search (rules, the_lemmas), value_len_fits _ _ _ _ c.pair-item.result c.loop-pair-test.true c.pair-item.is c.loop-pair.invariant c.requires)

pub tree_packed_len-all_len-requires : goal.tree_packed_len-all_len-requires
tree_packed_len-all_len-requires t c = (search (rules, the_lemmas), short-List _ _ _ _ _ c.in-List.is c.as_slice-in-List.ensures c.requires)

pub tree_packed_len-all_len-requires-in-Tuple : goal.tree_packed_len-all_len-requires-in-Tuple
tree_packed_len-all_len-requires-in-Tuple t c =
    (search (rules, the_lemmas), short-Tuple _ _ _ _ c.in-Tuple.is c.as_slice-in-Tuple.ensures c.requires)

pub tree_packed_len-pairs_len-requires : goal.tree_packed_len-pairs_len-requires
tree_packed_len-pairs_len-requires t c = (search (rules, the_lemmas), short-Map _ _ _ _ c.in-Map.is c.as_slice-in-Map.ensures c.requires)

pub tree_packed_len-all_len-requires-in-Closure : goal.tree_packed_len-all_len-requires-in-Closure
tree_packed_len-all_len-requires-in-Closure t c =
    (search (rules, the_lemmas), short-Closure _ _ _ _ _ c.in-Closure.is c.as_slice-in-Closure-3.ensures c.requires)

use Rattle.std.proofs.Common.{rules, sym, subst}
use Rattle.kh_term.specs.Lemmas.Fits.{parts_of_tuple, parts_of_list, part_of}
use Rattle.kh_term.specs.WellFormed.{IsTerm, AreTerms}
use Rattle.kh_term.specs.declared.tree.TermTree.TheViews.{the_lemmas}
use Rattle.kh_cond.proofs.reading.+reading.Goals as goal

pub cond_in-tuple_in-requires : goal.cond_in-tuple_in-requires
cond_in-tuple_in-requires t c =
    (search (rules, the_lemmas), subst AreTerms (sym c.as_slice.ensures) (parts_of_tuple c.in-Tuple.parts (subst IsTerm c.in-Tuple.is c.requires)))

pub conds_in-each_in-requires : goal.conds_in-each_in-requires
conds_in-each_in-requires t c =
    (search (rules, the_lemmas), subst AreTerms (sym c.as_slice.ensures) (parts_of_list c.in-List.parts c.in-List.tail (subst IsTerm c.in-List.is c.requires)))

pub each_in-cond_in-requires : goal.each_in-cond_in-requires
each_in-cond_in-requires t c =
    (search (rules, the_lemmas), part_of c.args.trees.now c.loop-tree.tree-index c.tree-item.result c.requires c.loop-tree-test.true c.tree-item.is)

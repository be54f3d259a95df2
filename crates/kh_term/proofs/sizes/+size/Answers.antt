use Rattle.std.proofs.Common.{rules, ◌≡◌, ◌<◌, ℕ, ◌+◌, List, length, get_or, drop, ap, arith}
use Rattle.kh_term.specs.declared.tree.TermTree.{TermTree}
use Rattle.kh_term.specs.declared.tree.TermTree.TheViews.{the_lemmas}
use Rattle.kh_term.specs.Size.{size_of, pair_sizes_of}
use Rattle.kh_term.proofs.Layers.{pair_sizes-drop}
use Rattle.kh_term.proofs.sizes.+size.Goals as goal

-- a value is no larger than what is left
value_fits : (ps : List (TermTree × TermTree)) (i all most : ℕ) (p : TermTree × TermTree) → i < length ps → p ≡ get_or ps i p → all + pair_sizes_of (drop i ps) ≡ pair_sizes_of ps → pair_sizes_of ps < most → size_of p.1 < most
value_fits ps i all most p h e k small = omega (arith, pair_sizes-drop ps i p h, ap (λ q. size_of q.1) e)

pub pair_sizes-tree_size-value-requires : goal.pair_sizes-tree_size-value-requires
pair_sizes-tree_size-value-requires t c = (search (rules, the_lemmas), value_fits c.args.pairs.now c.loop-pair.pair-index c.loop-pair.all _ c.pair-item.result c.loop-pair-test.true c.pair-item.is c.loop-pair.invariant c.requires)

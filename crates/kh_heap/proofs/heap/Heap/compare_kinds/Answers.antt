use Rattle.std.proofs.Common.{sym, ◌∙◌}
use Rattle.std.specs.Ordering.{nat_cmp}
use Rattle.kh_heap.specs.Heap.{term_at}
use Rattle.kh_heap.proofs.Orders.{rank-seen}
use Rattle.kh_heap.proofs.heap.Heap.compare_kinds.Goals as goal

pub returns : goal.returns
returns c =
    let heap = c.args.self.now in
    let first = rank-seen heap (term_at heap c.args.x) c.view.result c.view.ensures in
    let second = rank-seen heap (term_at heap c.args.y) c.view-2.result c.view-2.ensures in
    c.cmp.ensures ∙ (λ j. nat_cmp (c.rank.ensures j) (c.rank-2.ensures j)) ∙ (λ j. nat_cmp (sym first j) (sym second j))

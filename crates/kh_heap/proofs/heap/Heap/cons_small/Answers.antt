use Rattle.kh_heap.specs.Heap.{term_at, cons_tree}
use Rattle.kh_heap.proofs.Measures.{small-both}
use Rattle.kh_heap.proofs.Settling.{small-cause}
use Rattle.kh_heap.proofs.heap.Heap.cons_small.Goals as goal

pub returns-clause-cause : goal.returns-clause-cause
returns-clause-cause c =
    let t = cons_tree (term_at c.args.self.now c.args.head) (term_at c.args.self.now c.args.tail) in
    small-cause c.cons.result t c.cons.ensures.limits (small-both t c.requires.few c.requires.low)

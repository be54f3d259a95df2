use Rattle.std.proofs.Common.{ap, length, arith}
use Rattle.kh_heap.specs.Heap.{term_at}
use Rattle.kh_bif_data.specs.Lists.{elements}
use Rattle.kh_bif_data.proofs.Conses.{elements-few}
use Rattle.kh_bif_data.proofs.Walking.{Along-next, count_more, shorter, one_more, at_end, nothing_counted}
use Rattle.kh_bif_data.proofs.elements.count.Goals as goal

pub overflow_add-count : goal.overflow_add-count
overflow_add-count c =
    let heap = c.args.heap.now in
    omega (arith, elements-few (term_at heap c.args.a), c.along.invariant.so_far, c.size-bound.ensures.few, ap length (one_more heap c.args.a c.along.left c.in-Cons.field-0 c.in-Cons.rest c.in-Cons.ensures))

pub along-preserved : goal.along-preserved
along-preserved c =
    let heap = c.args.heap.now in
    record {
      along = Along-next heap c.args.a c.along.left c.in-Cons.field-0 c.in-Cons.rest c.in-Cons.ensures c.along.invariant.along;
      so_far = count_more heap c.args.a c.along.left c.in-Cons.field-0 c.in-Cons.rest c.in-Cons.ensures c.along.count c.along.invariant.so_far;
    }

pub along-smaller : goal.along-smaller
along-smaller c = shorter c.args.heap.now c.args.a c.along.left c.in-Cons.field-0 c.in-Cons.rest c.in-Cons.ensures

pub returns-in_default : goal.returns-in_default
returns-in_default c =
    let heap = c.args.heap.now in
    nothing_counted c.along.count (length (elements (term_at heap c.args.a))) (elements (term_at heap c.along.left)) (at_end heap (term_at heap c.along.left) c.view.result c.view.ensures (λ x y e. c.in_default.not-Cons x y e)) c.along.invariant.so_far

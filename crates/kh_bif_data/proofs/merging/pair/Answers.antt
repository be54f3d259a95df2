use Rattle.std.proofs.Common.{arith}
use Rattle.kh_heap.specs.Heap.{term_at}
use Rattle.kh_bif_data.proofs.Paired.{pair_seen, no_pair, key_fits, no_tuple_pair}
use Rattle.kh_bif_data.proofs.merging.pair.Goals as goal

pub returns-then-count-eq2-clause-fits : goal.returns-then-count-eq2-clause-fits
returns-then-count-eq2-clause-fits c =
    let heap = c.args.heap.now in
    key_fits heap (term_at heap c.args.r) c.in-Tuple.count c.in-Tuple.ensures (term_at heap c.part.result) c.size-size.ensures.fits (omega (arith, c.if-count-eq2.true)) c.part.ensures.part

pub returns-then-count-eq2-clause-terms : goal.returns-then-count-eq2-clause-terms
returns-then-count-eq2-clause-terms c =
    let heap = c.args.heap.now in
    pair_seen heap (term_at heap c.args.r) c.in-Tuple.count c.in-Tuple.ensures (term_at heap c.part.result) (term_at heap c.part-then-count-eq2.result) c.if-count-eq2.true c.part.ensures.part c.part-then-count-eq2.ensures.part

pub returns-else-count-eq2-clause-terms : goal.returns-else-count-eq2-clause-terms
returns-else-count-eq2-clause-terms c =
    let heap = c.args.heap.now in
    no_pair heap (term_at heap c.args.r) c.in-Tuple.count c.in-Tuple.ensures c.if-count-eq2.false

pub returns-in_default-clause-terms : goal.returns-in_default-clause-terms
returns-in_default-clause-terms c =
    let heap = c.args.heap.now in
    no_tuple_pair heap (term_at heap c.args.r) c.view.result c.view.ensures (λ n e. c.in_default.not-Tuple n e)

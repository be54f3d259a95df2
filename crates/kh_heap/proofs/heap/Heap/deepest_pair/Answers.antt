use Rattle.std.proofs.Common.{arith}
use Rattle.kh_heap.proofs.Runs.{deepest_pair-more}
use Rattle.kh_heap.proofs.heap.Heap.deepest_pair.Goals as goal

pub loop-pair-preserved : goal.loop-pair-preserved
loop-pair-preserved c =
    let l = c.loop-pair in
    let more = deepest_pair-more c.args.self.now c.args.pairs.now l.pair-index c.pair-item.result c.loop-pair-test.true c.pair-item.is in
    record {
      deepest = omega (arith, c.max-most.ensures, c.max.ensures, c.depth-key.ensures.depth, c.depth-value.ensures.depth, l.invariant.deepest, more);
      low = omega (arith, c.max-most.ensures, c.max.ensures, c.depth-key.ensures.depth, c.depth-key.ensures.low, c.depth-value.ensures.depth, c.depth-value.ensures.low, l.invariant.low);
    }

use Rattle.std.proofs.Common.{arith}
use Rattle.kh_heap.proofs.Runs.{greatest-more}
use Rattle.kh_heap.proofs.heap.Heap.deepest.Goals as goal

pub loop-r-preserved : goal.loop-r-preserved
loop-r-preserved c = record {
  deepest = omega (arith, c.max-most.ensures, c.depth.ensures.depth, c.loop-r.invariant.deepest, greatest-more c.args.self.now c.args.refs.now c.loop-r.r-index c.r-item.result c.loop-r-test.true c.r-item.is);
  low = omega (arith, c.max-most.ensures, c.depth.ensures.depth, c.depth.ensures.low, c.loop-r.invariant.low);
}

use Rattle.kh_heap.proofs.Measures.{measured-Int}
use Rattle.kh_heap.proofs.heap.Heap.int.Goals as goal

pub push-requires-clause-measured : goal.push-requires-clause-measured
push-requires-clause-measured c = measured-Int c.args.v c.ranges.v

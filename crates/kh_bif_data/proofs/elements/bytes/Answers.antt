use Rattle.std.proofs.Common.{[], arith}
use Rattle.kh_heap.specs.Heap.{term_at}
use Rattle.kh_heap.specs.Parts.{bytes_in}
use Rattle.kh_bif_data.proofs.Collecting.{bytes_more}
use Rattle.kh_bif_data.proofs.elements.bytes.Goals as goal

pub loop-i-preserved : goal.loop-i-preserved
loop-i-preserved c =
    bytes_more [] (bytes_in (term_at c.args.heap.now c.args.r)) c.loop-i.items.items c.push.new.self.items c.loop-i.i c.byte.result c.in_ok-push.ensures.items c.loop-i.invariant
    (omega (arith, c.loop-i-test.true, c.requires.count)) c.byte.ensures

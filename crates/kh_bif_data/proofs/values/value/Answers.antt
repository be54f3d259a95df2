use Rattle.std.proofs.Common.{refl}
use Rattle.kh_heap.specs.Heap.{term_at, Stands}
use Rattle.kh_bif_base.proofs.Answering.{small, value_answers}
use Rattle.kh_bif_data.proofs.values.value.Goals as goal

pub returns : goal.returns
returns c =
    let heap = c.args.heap.now in
    let t = term_at heap c.args.r in
    value_answers heap c.args.r t record { held = c.requires; term = refl } (small t c.size-size.ensures.few c.depth-depth.ensures.low)

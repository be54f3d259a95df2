use Rattle.std.proofs.Common.{ap, ◌∙◌}
use Rattle.kh_term.specs.Make.{list_of}
use Rattle.kh_heap.specs.Heap.{term_at, terms_at}
use Rattle.kh_heap.specs.Parts.{parts_in}
use Rattle.kh_bif_data.proofs.Answering.{same_built}
use Rattle.kh_bif_data.proofs.tuples.as_list.Goals as goal

pub returns-clause-built : goal.returns-clause-built
returns-clause-built c =
    let heap = c.args.heap.now in
    same_built c.list.new.heap c.list.result (list_of (terms_at heap c.as_slice.result.now)) (list_of (parts_in (term_at heap c.args.t)))
    (ap list_of (ap (terms_at heap) c.as_slice.ensures.value ∙ c.in_ok-items.ensures.terms)) c.list.ensures.built

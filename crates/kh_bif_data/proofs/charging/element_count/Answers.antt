use Rattle.std.proofs.Common.{sym, ◌∙◌}
use Rattle.kh_heap.specs.Heap.{term_at}
use Rattle.kh_bif_data.proofs.Asking.{elements_counted, no_elements_counted}
use Rattle.kh_bif_data.proofs.charging.element_count.Goals as goal

pub returns-in-Tuple : goal.returns-in-Tuple
returns-in-Tuple c = c.from.ensures ∙ sym (elements_counted c.args.heap.now (term_at c.args.heap.now c.args.t) c.in-Tuple.count c.in-Tuple.ensures)

pub returns-in_default : goal.returns-in_default
returns-in_default c = sym (no_elements_counted c.args.heap.now (term_at c.args.heap.now c.args.t) c.view.result c.view.ensures (λ n e. c.in_default.not-Tuple n e))

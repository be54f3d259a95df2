use Rattle.std.proofs.Common.{sym, ◌∙◌}
use Rattle.kh_heap.specs.Heap.{term_at}
use Rattle.kh_bif_data.proofs.Asking.{pairs_counted, no_pairs_counted}
use Rattle.kh_bif_data.proofs.charging.pair_count.Goals as goal

pub returns-in-Map-clause-count : goal.returns-in-Map-clause-count
returns-in-Map-clause-count c = c.from.ensures ∙ sym (pairs_counted c.args.heap.now (term_at c.args.heap.now c.args.m) c.in-Map.count c.in-Map.ensures)

pub returns-in_default-clause-count : goal.returns-in_default-clause-count
returns-in_default-clause-count c = sym (no_pairs_counted c.args.heap.now (term_at c.args.heap.now c.args.m) c.view.result c.view.ensures (λ n e. c.in_default.not-Map n e))

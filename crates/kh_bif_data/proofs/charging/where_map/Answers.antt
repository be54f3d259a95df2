use Rattle.std.proofs.Common.{sym}
use Rattle.kh_heap.specs.Heap.{term_at}
use Rattle.kh_bif_data.proofs.Asking.{where_map_seen, where_no_map}
use Rattle.kh_bif_data.proofs.charging.where_map.Goals as goal

pub returns-in-Map : goal.returns-in-Map
returns-in-Map c = sym (where_map_seen c.args.heap.now (term_at c.args.heap.now c.args.m) c.in-Map.field-0 c.args.n c.in-Map.ensures)

pub returns-in_default : goal.returns-in_default
returns-in_default c = sym (where_no_map c.args.heap.now (term_at c.args.heap.now c.args.m) c.view.result c.args.n c.view.ensures (λ n e. c.in_default.not-Map n e))

use Rattle.std.proofs.Common.{sym, ◌∙◌}
use Rattle.kh_term.specs.Size.{size_of}
use Rattle.kh_heap.specs.Heap.{term_at}
use Rattle.kh_bif_data.proofs.Asking.{where_bin_seen, where_no_bin}
use Rattle.kh_bif_data.proofs.charging.size_of_binary.Goals as goal

pub returns-in-Bin : goal.returns-in-Bin
returns-in-Bin c =
    let t = term_at c.args.heap.now c.args.b in
    c.size.ensures.size ∙ sym (where_bin_seen c.args.heap.now t c.in-Bin.field-0 (size_of t) c.in-Bin.ensures)

pub returns-in_default : goal.returns-in_default
returns-in_default c =
    let t = term_at c.args.heap.now c.args.b in
    sym (where_no_bin c.args.heap.now t c.view.result (size_of t) c.view.ensures (λ n e. c.in_default.not-Bin n e))

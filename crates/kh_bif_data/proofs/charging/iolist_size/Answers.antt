use Rattle.std.proofs.Common.{◌∙◌, sym, ap, arith}
use Rattle.kh_heap.specs.Heap.{term_at}
use Rattle.kh_bif_data.specs.Iolists.{iolist}
use Rattle.kh_bif_data.proofs.Costs.{within, some_within, none_within}
use Rattle.kh_bif_data.proofs.charging.iolist_size.Goals as goal

pub returns-in-Some : goal.returns-in-Some
returns-in-Some c =
    let t = term_at c.args.heap.now c.args.r in
    c.within.ensures ∙ ap within c.binary_size.ensures ∙ sym (some_within (iolist t) c.in-Some.len (sym c.in-Some.is ∙ c.iolist_len.ensures.len))

pub returns-in-None : goal.returns-in-None
returns-in-None c =
    let t = term_at c.args.heap.now c.args.r in
    sym (none_within (iolist t) (sym c.in-None.is ∙ c.iolist_len.ensures.len))

pub binary_size-requires : goal.binary_size-requires
binary_size-requires c = omega (arith, c.in-Some.ensures.few, c.size-bound.ensures.few)

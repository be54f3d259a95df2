use Rattle.std.proofs.Common.{ap, sym, ◌∙◌}
use Rattle.std.specs.Prelude.{Some, None}
use Rattle.kh_heap.specs.Heap.{term_at}
use Rattle.kh_bif_data.proofs.Asking.{is_proper, is_improper}
use Rattle.kh_bif_data.proofs.elements.proper.Goals as goal

pub returns-then-is_proper-clause-terms : goal.returns-then-is_proper-clause-terms
returns-then-is_proper-clause-terms c =
    let t = term_at c.args.heap.now c.args.a in
    ap (λ ts. Some ts) c.in_ok-items.ensures.terms ∙ sym (is_proper t (sym c.in_ok-items.ensures.proper ∙ c.if-is_proper.true))

pub returns-else-is_proper-clause-terms : goal.returns-else-is_proper-clause-terms
returns-else-is_proper-clause-terms c =
    let t = term_at c.args.heap.now c.args.a in
    sym (is_improper t (sym c.in_ok-items.ensures.proper ∙ c.if-is_proper.false))

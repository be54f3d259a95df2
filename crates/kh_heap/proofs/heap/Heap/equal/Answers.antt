use Rattle.std.proofs.Common.{sym, ◌∙◌}
use Rattle.kh_heap.specs.Heap.{term_at}
use Rattle.kh_heap.proofs.Orders.{equal_told}
use Rattle.kh_heap.proofs.heap.Heap.equal.Goals as goal

pub returns : goal.returns
returns c =
    let heap = c.args.self.now in let x = term_at heap c.args.a in let y = term_at heap c.args.b in
    let told = equal_told c.compare.result x y (c.stands_for_terms.ensures.fits c.args.a c.requires.first) (c.stands_for_terms.ensures.fits c.args.b c.requires.second) c.compare.ensures in
    (λ h. told.0 (sym c.is_eq.ensures ∙ h), λ e. c.is_eq.ensures ∙ told.1 e)

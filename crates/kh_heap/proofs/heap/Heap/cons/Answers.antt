use Rattle.std.proofs.Common.{◌≡◌, ◌+◌, refl, sym, subst, ◌∙◌}
use Rattle.kh_term.specs.Size.{size_of}
use Rattle.kh_heap.specs.Cells.{Measured}
use Rattle.kh_heap.specs.Heap.{term_at, cons_tree}
use Rattle.kh_heap.proofs.Measures.{size-cons, fits-cons, measured-of}
use Rattle.kh_heap.proofs.Settling.{past, within, limits}
use Rattle.kh_heap.proofs.heap.Heap.cons.Goals as goal

pub returns-then-is_too_large-clause-limits : goal.returns-then-is_too_large-clause-limits
returns-then-is_too_large-clause-limits c =
    let t = cons_tree (term_at c.args.self.now c.args.head) (term_at c.args.self.now c.args.tail) in
    let s : 1 + c.size.result + c.size-2.result ≡ size_of t =
    (λ i. 1 + c.size.ensures.size i + c.size-2.ensures.size i) ∙ sym (size-cons (term_at c.args.self.now c.args.head) (term_at c.args.self.now c.args.tail)) in
    past c.is_too_large.result (1 + c.size.result + c.size-2.result) c.cons_depth-depth.result t c.is_too_large.ensures s c.cons_depth-depth.ensures c.if-is_too_large.true

pub push-requires-clause-measured : goal.push-requires-clause-measured
push-requires-clause-measured c =
    let t = cons_tree (term_at c.args.self.now c.args.head) (term_at c.args.self.now c.args.tail) in
    let s : 1 + c.size.result + c.size-2.result ≡ size_of t =
    (λ i. 1 + c.size.ensures.size i + c.size-2.ensures.size i) ∙ sym (size-cons (term_at c.args.self.now c.args.head) (term_at c.args.self.now c.args.tail)) in
    let measured = measured-of (1 + c.size.result + c.size-2.result) c.cons_depth-depth.result t (within c.is_too_large.result (1 + c.size.result + c.size-2.result) c.cons_depth-depth.result t c.is_too_large.ensures s c.cons_depth-depth.ensures c.if-is_too_large.false) s c.cons_depth-depth.ensures
    (fits-cons (term_at c.args.self.now c.args.head) (term_at c.args.self.now c.args.tail) c.size.ensures.fits c.size-2.ensures.fits) in
    subst (λ h. Measured (1 + c.size.result + c.size-2.result) c.cons_depth-depth.result (cons_tree (term_at c.args.self.now h) (term_at c.args.self.now c.tail.inside.place))) (sym c.head.view_is)
    (subst (λ k. Measured (1 + c.size.result + c.size-2.result) c.cons_depth-depth.result (cons_tree (term_at c.args.self.now c.args.head) (term_at c.args.self.now k))) (sym c.tail.view_is) measured)

pub returns-clause-limits : goal.returns-clause-limits
returns-clause-limits c =
    let t = cons_tree (term_at c.args.self.now c.args.head) (term_at c.args.self.now c.args.tail) in
    let s : 1 + c.size.result + c.size-2.result ≡ size_of t =
    (λ i. 1 + c.size.ensures.size i + c.size-2.ensures.size i) ∙ sym (size-cons (term_at c.args.self.now c.args.head) (term_at c.args.self.now c.args.tail)) in
    limits c.push.result c.push.result t refl (within c.is_too_large.result (1 + c.size.result + c.size-2.result) c.cons_depth-depth.result t c.is_too_large.ensures s c.cons_depth-depth.ensures c.if-is_too_large.false) c.push.ensures.cause

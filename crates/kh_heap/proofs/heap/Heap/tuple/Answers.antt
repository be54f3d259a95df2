use Rattle.std.proofs.Common.{◌≡◌, ◌+◌, ap, sym, ◌∙◌}
use Rattle.kh_term.specs.declared.tree.TermTree.TheVariants as tree
use Rattle.kh_term.specs.Size.{size_of, depth_of}
use Rattle.kh_term.specs.Lemmas.Fits.{fits-Tuple}
use Rattle.kh_term.proofs.Layers.{size-Tuple, depth-Tuple}
use Rattle.kh_heap.specs.Heap.{terms_at}
use Rattle.kh_heap.proofs.Measures.{measured-of}
use Rattle.kh_heap.proofs.Settling.{past, within, limits}
use Rattle.kh_heap.proofs.heap.Heap.tuple.Goals as goal

pub returns-then-is_too_large-clause-limits : goal.returns-then-is_too_large-clause-limits
returns-then-is_too_large-clause-limits c =
    let t = tree.Tuple (terms_at c.args.self.now c.args.items.now) in
    let s : 1 + c.sizes-size.result ≡ size_of t = ap (λ n. 1 + n) c.sizes-size.ensures.sizes ∙ sym (size-Tuple (terms_at c.args.self.now c.args.items.now)) in
    let d : 1 + c.deepest-depth.result ≡ depth_of t = ap (λ n. 1 + n) c.deepest-depth.ensures.deepest ∙ sym (depth-Tuple (terms_at c.args.self.now c.args.items.now)) in
    past c.is_too_large.result (1 + c.sizes-size.result) (1 + c.deepest-depth.result) t c.is_too_large.ensures s d c.if-is_too_large.true

pub push_tuple-made-requires-clause-measured : goal.push_tuple-made-requires-clause-measured
push_tuple-made-requires-clause-measured c =
    let t = tree.Tuple (terms_at c.args.self.now c.args.items.now) in
    let s : 1 + c.sizes-size.result ≡ size_of t = ap (λ n. 1 + n) c.sizes-size.ensures.sizes ∙ sym (size-Tuple (terms_at c.args.self.now c.args.items.now)) in
    let d : 1 + c.deepest-depth.result ≡ depth_of t = ap (λ n. 1 + n) c.deepest-depth.ensures.deepest ∙ sym (depth-Tuple (terms_at c.args.self.now c.args.items.now)) in
    measured-of (1 + c.sizes-size.result) (1 + c.deepest-depth.result) t (within c.is_too_large.result (1 + c.sizes-size.result) (1 + c.deepest-depth.result) t c.is_too_large.ensures s d c.if-is_too_large.false) s d
    (fits-Tuple (terms_at c.args.self.now c.args.items.now) c.sizes-size.ensures.fit)

pub returns-clause-limits : goal.returns-clause-limits
returns-clause-limits c =
    let t = tree.Tuple (terms_at c.args.self.now c.args.items.now) in
    let s : 1 + c.sizes-size.result ≡ size_of t = ap (λ n. 1 + n) c.sizes-size.ensures.sizes ∙ sym (size-Tuple (terms_at c.args.self.now c.args.items.now)) in
    let d : 1 + c.deepest-depth.result ≡ depth_of t = ap (λ n. 1 + n) c.deepest-depth.ensures.deepest ∙ sym (depth-Tuple (terms_at c.args.self.now c.args.items.now)) in
    limits c.push_tuple-made.result c.settled.result t c.settled.ensures.same (within c.is_too_large.result (1 + c.sizes-size.result) (1 + c.deepest-depth.result) t c.is_too_large.ensures s d c.if-is_too_large.false) c.push_tuple-made.ensures.cause

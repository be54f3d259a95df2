use Rattle.std.proofs.Common.{◌≡◌, ◌+◌, ap, sym, ◌∙◌, arith}
use Rattle.kh_term.specs.declared.tree.TermTree.TheVariants as tree
use Rattle.kh_term.specs.Size.{size_of, depth_of}
use Rattle.std.proofs.Common.{length}
use borrow.Author.Tests.{le-leb}
use Rattle.std.proofs.lemmas.List.{length-map}
use Rattle.kh_heap.specs.Heap.{term_at}
use Rattle.kh_term.specs.Lemmas.Fits.{fits-Closure}
use Rattle.kh_term.proofs.Layers.{size-Closure, depth-Closure}
use Rattle.kh_heap.specs.Heap.{terms_at}
use Rattle.kh_heap.proofs.Measures.{measured-of}
use Rattle.kh_heap.proofs.Settling.{past, within, limits}
use Rattle.kh_heap.proofs.heap.Heap.closure.Goals as goal

pub returns-then-is_too_large-clause-limits : goal.returns-then-is_too_large-clause-limits
returns-then-is_too_large-clause-limits c =
    let t = tree.Closure c.args.origin.now (terms_at c.args.self.now c.args.env.now) in
    let s : 1 + c.sizes-size.result ≡ size_of t = ap (λ n. 1 + n) c.sizes-size.ensures.sizes ∙ sym (size-Closure c.args.origin.now (terms_at c.args.self.now c.args.env.now)) in
    let d : 1 + c.deepest-depth.result ≡ depth_of t = ap (λ n. 1 + n) c.deepest-depth.ensures.deepest ∙ sym (depth-Closure c.args.origin.now (terms_at c.args.self.now c.args.env.now)) in
    past c.is_too_large.result (1 + c.sizes-size.result) (1 + c.deepest-depth.result) t c.is_too_large.ensures s d c.if-is_too_large.true

pub push_function-made-requires-clause-measured : goal.push_function-made-requires-clause-measured
push_function-made-requires-clause-measured c =
    let t = tree.Closure c.args.origin.now (terms_at c.args.self.now c.args.env.now) in
    let s : 1 + c.sizes-size.result ≡ size_of t = ap (λ n. 1 + n) c.sizes-size.ensures.sizes ∙ sym (size-Closure c.args.origin.now (terms_at c.args.self.now c.args.env.now)) in
    let d : 1 + c.deepest-depth.result ≡ depth_of t = ap (λ n. 1 + n) c.deepest-depth.ensures.deepest ∙ sym (depth-Closure c.args.origin.now (terms_at c.args.self.now c.args.env.now)) in
    measured-of (1 + c.sizes-size.result) (1 + c.deepest-depth.result) t (within c.is_too_large.result (1 + c.sizes-size.result) (1 + c.deepest-depth.result) t c.is_too_large.ensures s d c.if-is_too_large.false) s d
    (fits-Closure c.args.origin.now (terms_at c.args.self.now c.args.env.now) c.fits.ensures c.sizes-size.ensures.fit (le-leb (length (terms_at c.args.self.now c.args.env.now)) c.args.origin.now.arity (omega (arith, c.requires.arity, length-map c.args.env.now (term_at c.args.self.now)))))

pub returns-clause-limits : goal.returns-clause-limits
returns-clause-limits c =
    let t = tree.Closure c.args.origin.now (terms_at c.args.self.now c.args.env.now) in
    let s : 1 + c.sizes-size.result ≡ size_of t = ap (λ n. 1 + n) c.sizes-size.ensures.sizes ∙ sym (size-Closure c.args.origin.now (terms_at c.args.self.now c.args.env.now)) in
    let d : 1 + c.deepest-depth.result ≡ depth_of t = ap (λ n. 1 + n) c.deepest-depth.ensures.deepest ∙ sym (depth-Closure c.args.origin.now (terms_at c.args.self.now c.args.env.now)) in
    limits c.push_function-made.result c.settled.result t c.settled.ensures.same (within c.is_too_large.result (1 + c.sizes-size.result) (1 + c.deepest-depth.result) t c.is_too_large.ensures s d c.if-is_too_large.false) c.push_function-made.ensures.cause

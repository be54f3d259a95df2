use Rattle.std.proofs.Common.{◌≡◌, ◌+◌, ap, sym, ◌∙◌, arith}
use Rattle.kh_term.specs.declared.tree.TermTree.TheVariants as tree
use Rattle.kh_term.specs.Size.{size_of, depth_of}
use Rattle.std.proofs.Common.{map}
use Rattle.kh_term.specs.WellFormed.{keys_rise}
use Rattle.kh_term.specs.Lemmas.Fits.{no_fault, fits-Map}
use Rattle.kh_term.proofs.Layers.{size-Map, depth-Map}
use Rattle.kh_heap.specs.Heap.{pairs_at}
use Rattle.kh_heap.proofs.Measures.{measured-of}
use Rattle.kh_heap.proofs.Settling.{past, within, limits}
use Rattle.kh_heap.proofs.heap.Heap.map.Goals as goal

pub returns-then-is_too_large-clause-limits : goal.returns-then-is_too_large-clause-limits
returns-then-is_too_large-clause-limits c =
    let t = tree.Map (pairs_at c.args.self.now c.args.pairs.now) in
    let s : 1 + c.pair_sizes-size.result ≡ size_of t = ap (λ n. 1 + n) c.pair_sizes-size.ensures.sizes ∙ sym (size-Map (pairs_at c.args.self.now c.args.pairs.now)) in
    let d : 1 + c.deepest_pair-depth.result ≡ depth_of t = ap (λ n. 1 + n) c.deepest_pair-depth.ensures.deepest ∙ sym (depth-Map (pairs_at c.args.self.now c.args.pairs.now)) in
    past c.is_too_large.result (1 + c.pair_sizes-size.result) (1 + c.deepest_pair-depth.result) t c.is_too_large.ensures s d c.if-is_too_large.true

pub push_map-made-requires-clause-measured : goal.push_map-made-requires-clause-measured
push_map-made-requires-clause-measured c =
    let t = tree.Map (pairs_at c.args.self.now c.args.pairs.now) in
    let s : 1 + c.pair_sizes-size.result ≡ size_of t = ap (λ n. 1 + n) c.pair_sizes-size.ensures.sizes ∙ sym (size-Map (pairs_at c.args.self.now c.args.pairs.now)) in
    let d : 1 + c.deepest_pair-depth.result ≡ depth_of t = ap (λ n. 1 + n) c.deepest_pair-depth.ensures.deepest ∙ sym (depth-Map (pairs_at c.args.self.now c.args.pairs.now)) in
    measured-of (1 + c.pair_sizes-size.result) (1 + c.deepest_pair-depth.result) t (within c.is_too_large.result (1 + c.pair_sizes-size.result) (1 + c.deepest_pair-depth.result) t c.is_too_large.ensures s d c.if-is_too_large.false) s d
    (fits-Map (pairs_at c.args.self.now c.args.pairs.now) (omega (arith, c.pair_sizes-size.ensures.fit, no_fault (keys_rise (map (λ p. p.0) (pairs_at c.args.self.now c.args.pairs.now))) c.requires.rising)))

pub returns-clause-limits : goal.returns-clause-limits
returns-clause-limits c =
    let t = tree.Map (pairs_at c.args.self.now c.args.pairs.now) in
    let s : 1 + c.pair_sizes-size.result ≡ size_of t = ap (λ n. 1 + n) c.pair_sizes-size.ensures.sizes ∙ sym (size-Map (pairs_at c.args.self.now c.args.pairs.now)) in
    let d : 1 + c.deepest_pair-depth.result ≡ depth_of t = ap (λ n. 1 + n) c.deepest_pair-depth.ensures.deepest ∙ sym (depth-Map (pairs_at c.args.self.now c.args.pairs.now)) in
    limits c.push_map-made.result c.settled.result t c.settled.ensures.same (within c.is_too_large.result (1 + c.pair_sizes-size.result) (1 + c.deepest_pair-depth.result) t c.is_too_large.ensures s d c.if-is_too_large.false) c.push_map-made.ensures.cause

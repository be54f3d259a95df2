use Rattle.std.proofs.Common.{◌≡◌, ℕ, ◌+◌, ◌-◌, ◌<◌, length, drop, ap, ◌∙◌, arith}
use Rattle.kh_term.specs.Size.{size_of, depth_of}
use Rattle.kh_heap.specs.Cells.{onto}
use Rattle.kh_heap.specs.Heap.{term_at, terms_at}
use Rattle.kh_heap.proofs.Growth.{Grew-trans}
use Rattle.kh_heap.proofs.Loads.{list-next}
use Rattle.kh_heap.proofs.Measures.{onto-few, onto-low}
use Rattle.kh_heap.proofs.heap.Heap.cons_all.Goals as goal

pub cons_small-requires-clause-few : goal.cons_small-requires-clause-few
cons_small-requires-clause-few c =
    let l = c.loop-i in let i = l.i - 1 in let old = c.args.self.now in let heads = c.args.heads.now in let x = term_at old c.args.last in
    let step : l.i ≡ i + 1 = omega (arith, c.loop-i-test.true) in
    let here : i < length heads = omega (arith, c.loop-i-test.true, l.invariant.within) in
    let so_far = l.invariant.term ∙ ap (λ (n : ℕ). onto (drop n (terms_at old heads)) x) step in
    let next = list-next old l.self heads i c.index-heads-i.result l.list x l.invariant.grew c.requires.held here c.index-heads-i.is so_far in
    omega (arith, ap size_of next, onto-few (terms_at old heads) x i, c.requires.few)

pub cons_small-requires-clause-low : goal.cons_small-requires-clause-low
cons_small-requires-clause-low c =
    let l = c.loop-i in let i = l.i - 1 in let old = c.args.self.now in let heads = c.args.heads.now in let x = term_at old c.args.last in
    let step : l.i ≡ i + 1 = omega (arith, c.loop-i-test.true) in
    let here : i < length heads = omega (arith, c.loop-i-test.true, l.invariant.within) in
    let so_far = l.invariant.term ∙ ap (λ (n : ℕ). onto (drop n (terms_at old heads)) x) step in
    let next = list-next old l.self heads i c.index-heads-i.result l.list x l.invariant.grew c.requires.held here c.index-heads-i.is so_far in
    omega (arith, ap depth_of next, onto-low (terms_at old heads) x i, c.requires.low)

pub loop-i-preserved : goal.loop-i-preserved
loop-i-preserved c =
    let l = c.loop-i in let i = l.i - 1 in let old = c.args.self.now in let heads = c.args.heads.now in let x = term_at old c.args.last in
    let step : l.i ≡ i + 1 = omega (arith, c.loop-i-test.true) in
    let here : i < length heads = omega (arith, c.loop-i-test.true, l.invariant.within) in
    let so_far = l.invariant.term ∙ ap (λ (n : ℕ). onto (drop n (terms_at old heads)) x) step in
    let next = list-next old l.self heads i c.index-heads-i.result l.list x l.invariant.grew c.requires.held here c.index-heads-i.is so_far in
    record {
      within = omega (arith, here);
      grew = Grew-trans old l.self c.cons_small.new.self l.invariant.grew c.in_ok-list.ensures.grew;
      held = c.in_ok-list.ensures.term.held;
      term = c.in_ok-list.ensures.term.term ∙ next;
      cells = omega (arith, c.loop-i-test.true, l.invariant.cells, c.in_ok-list.ensures.cells);
    }

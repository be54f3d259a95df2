use Rattle.std.proofs.Common.{◌≡◌, ◌+◌, ◌-◌, ◌<◌, length, drop, sym, ap, ◌∙◌, arith}
use Rattle.std.proofs.lemmas.List.{drop_all, length-map}
use Rattle.kh_term.specs.Limits.{is_small}
use Rattle.kh_term.specs.Make.{list_with_tail}
use Rattle.kh_heap.specs.Heap.{term_at, terms_at, cons_tree}
use Rattle.kh_heap.proofs.Growth.{Grew-refl, Grew-trans}
use Rattle.kh_bif_base.proofs.Answering.{small}
use Rattle.kh_bif_data.proofs.Answering.{large_refused}
use Rattle.kh_bif_data.proofs.Onto.{head-held, next, too_large}
use Rattle.kh_bif_data.proofs.building.onto.Goals as goal

pub loop-i-init : goal.loop-i-init
loop-i-init c =
    let heap = c.args.heap.now in
    let tail = term_at heap c.args.tail in
    let terms = terms_at heap c.args.items.now in
    record {
      within = omega arith;
      grew = Grew-refl heap;
      held = c.requires.tail;
      term = sym (ap (λ ts. list_with_tail ts tail) (drop_all (length c.args.items.now) terms (omega (arith, length-map c.args.items.now (term_at heap)))));
      small = small tail (omega (arith, c.size-size.ensures.few)) (omega (arith, c.depth-depth.ensures.low));
      cells = omega arith;
    }

pub cons-requires-clause-head_held : goal.cons-requires-clause-head_held
cons-requires-clause-head_held c =
    let l = c.loop-i in
    let i = l.i - 1 in
    let old = c.args.heap.now in
    let items = c.args.items.now in
    let tail = term_at old c.args.tail in
    let step : l.i ≡ i + 1 = omega (arith, c.loop-i-test.true) in
    let here : i < length items = omega (arith, c.loop-i-test.true, l.invariant.within) in
    let so_far = l.invariant.term ∙ ap (λ n. list_with_tail (drop n (terms_at old items)) tail) step in
    head-held old l.heap items i c.index-items-i.result l.list tail l.invariant.grew c.requires.items here c.index-items-i.is so_far

pub loop-i-preserved : goal.loop-i-preserved
loop-i-preserved c =
    let l = c.loop-i in
    let i = l.i - 1 in
    let old = c.args.heap.now in
    let items = c.args.items.now in
    let tail = term_at old c.args.tail in
    let step : l.i ≡ i + 1 = omega (arith, c.loop-i-test.true) in
    let here : i < length items = omega (arith, c.loop-i-test.true, l.invariant.within) in
    let so_far = l.invariant.term ∙ ap (λ n. list_with_tail (drop n (terms_at old items)) tail) step in
    let whole = next old l.heap items i c.index-items-i.result l.list tail l.invariant.grew c.requires.items here c.index-items-i.is so_far in
    let term = c.in_ok-list.ensures.term.term in
    record {
      within = omega (arith, here);
      grew = Grew-trans old l.heap c.cons.new.self l.invariant.grew c.in_ok-list.ensures.grew;
      held = c.in_ok-list.ensures.term.held;
      term = term ∙ whole;
      small = ap is_small term ∙ c.in_ok-list.ensures.limits;
      cells = omega (arith, c.loop-i-test.true, l.invariant.cells, c.in_ok-list.ensures.cells);
    }

pub returns-in_err-list-clause-built : goal.returns-in_err-list-clause-built
returns-in_err-list-clause-built c =
    let l = c.loop-i in
    let i = l.i - 1 in
    let old = c.args.heap.now in
    let items = c.args.items.now in
    let tail = term_at old c.args.tail in
    let step : l.i ≡ i + 1 = omega (arith, c.loop-i-test.true) in
    let here : i < length items = omega (arith, c.loop-i-test.true, l.invariant.within) in
    let so_far = l.invariant.term ∙ ap (λ n. list_with_tail (drop n (terms_at old items)) tail) step in
    large_refused c.cons.new.self (cons_tree (term_at l.heap c.index-items-i.result) (term_at l.heap l.list)) (list_with_tail (terms_at old items) tail) c.in_err-list.field-0.0 c.from_residual.result c.in_err-list.ensures.limits
    (too_large old l.heap items i c.index-items-i.result l.list tail l.invariant.grew c.requires.items here c.index-items-i.is so_far) c.from_residual.ensures.1

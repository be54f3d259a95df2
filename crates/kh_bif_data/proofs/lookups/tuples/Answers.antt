use Rattle.std.proofs.Common.{◌≡◌, ◌+◌, ◌*◌, ◌<◌, ◌++◌, [], ◌∷◌, List, ℕ, length, map, take, get_or, sym, ap, subst, ◌∙◌, arith}
use Rattle.std.proofs.lemmas.List.{map-append, map_more}
use Rattle.kh_term.specs.declared.tree.TermTree.{TermTree}
use Rattle.kh_term.specs.declared.tree.TermTree.TheVariants as tree
use Rattle.kh_heap.specs.Heap.{term_at, terms_at, HoldsAll}
use Rattle.kh_heap.specs.Parts.{pairs_in, parts_in}
use Rattle.kh_heap.proofs.Growth.{Grew-trans, Holds-grew, HoldsAll-grew, term_at-grew, terms_at-grew}
use Rattle.kh_bif_data.specs.Maps.{pair_tree}
use Rattle.kh_bif_data.proofs.Collecting.{held_more, key_at, value_at, two_held}
use Rattle.kh_term.specs.Limits.{is_small}
use Rattle.kh_bif_data.proofs.Smallness.{pair_small, wants_memory, memory_refused}
use Rattle.kh_bif_data.proofs.lookups.tuples.Goals as goal

pub part-key-requires-clause-held : goal.part-key-requires-clause-held
part-key-requires-clause-held c = Holds-grew c.args.heap.now c.loop-i.heap c.args.m c.loop-i.invariant.grew c.requires.held

pub part-key-requires-clause-within : goal.part-key-requires-clause-within
part-key-requires-clause-within c =
    let same = ap parts_in (term_at-grew c.args.heap.now c.loop-i.heap c.args.m c.loop-i.invariant.grew c.requires.held) in
    omega (arith, c.loop-i-test.true, c.requires.map.2, ap length same)

pub part-value-requires-clause-held : goal.part-value-requires-clause-held
part-value-requires-clause-held c = Holds-grew c.args.heap.now c.loop-i.heap c.args.m c.loop-i.invariant.grew c.requires.held

pub part-value-requires-clause-within : goal.part-value-requires-clause-within
part-value-requires-clause-within c =
    let same = ap parts_in (term_at-grew c.args.heap.now c.loop-i.heap c.args.m c.loop-i.invariant.grew c.requires.held) in
    omega (arith, c.loop-i-test.true, c.requires.map.2, ap length same)

pub tuple-requires-clause-held : goal.tuple-requires-clause-held
tuple-requires-clause-held c = two_held c.loop-i.heap c.part-key.result c.part-value.result c.part-key.ensures.held c.part-value.ensures.held

pub loop-i-preserved : goal.loop-i-preserved
loop-i-preserved c =
    let l = c.loop-i in
    let i = l.i in
    let old = c.args.heap.now in
    let new = c.tuple.new.self in
    let t = term_at old c.args.m in
    let ps = pairs_in t in
    let rs = l.items.items in
    let had = l.invariant in
    let k = c.part-key.result in
    let v = c.part-value.result in
    let d : TermTree × TermTree = (tree.Nil, tree.Nil) in
    let within : i < length ps = omega (arith, c.loop-i-test.true, c.requires.map.1) in
    let same = ap parts_in (term_at-grew old l.heap c.args.m had.grew c.requires.held) in
    let key : term_at l.heap k ≡ (get_or ps i d).0 = c.part-key.ensures.part ∙ ap (λ us. get_or us (2 * i) tree.Nil) same ∙ key_at t i d c.requires.map.0 within in
    let value : term_at l.heap v ≡ (get_or ps i d).1 = c.part-value.ensures.part ∙ ap (λ us. get_or us (2 * i + 1) tree.Nil) same ∙ value_at t i d c.requires.map.0 within in
    let made = c.in_ok-pair.ensures in
    let pair : term_at new c.in_ok-pair.pair ≡ pair_tree (get_or ps i d) = made.term.term ∙ (λ j. tree.Tuple (key j ∷ value j ∷ [])) in
    let before : terms_at new rs ≡ map pair_tree (take i ps) = terms_at-grew l.heap new rs made.grew had.held ∙ had.terms in
    let pushed = c.in_ok-push.ensures.items in
    record {
      grew = Grew-trans old l.heap new had.grew made.grew;
      held = subst (λ (us : List ℕ). HoldsAll new us) (sym pushed) (held_more new rs c.in_ok-pair.pair (HoldsAll-grew l.heap new rs made.grew had.held) made.term.held);
      terms =
          ap (terms_at new) pushed ∙ map-append (term_at new) rs (c.in_ok-pair.pair ∷ []) ∙ (λ j. before j ++ pair j ∷ []) ∙ sym (map_more pair_tree ps i d within);
      cells = omega (arith, had.cells, made.cells);
    }

pub returns-in_err-pair-clause-limits : goal.returns-in_err-pair-clause-limits
returns-in_err-pair-clause-limits c =
    let l = c.loop-i in
    let i = l.i in
    let old = c.args.heap.now in
    let t = term_at old c.args.m in
    let ps = pairs_in t in
    let k = c.part-key.result in
    let v = c.part-value.result in
    let d : TermTree × TermTree = (tree.Nil, tree.Nil) in
    let within : i < length ps = omega (arith, c.loop-i-test.true, c.requires.map.1) in
    let same = ap parts_in (term_at-grew old l.heap c.args.m l.invariant.grew c.requires.held) in
    let key : term_at l.heap k ≡ (get_or ps i d).0 = c.part-key.ensures.part ∙ ap (λ us. get_or us (2 * i) tree.Nil) same ∙ key_at t i d c.requires.map.0 within in
    let value : term_at l.heap v ≡ (get_or ps i d).1 = c.part-value.ensures.part ∙ ap (λ us. get_or us (2 * i + 1) tree.Nil) same ∙ value_at t i d c.requires.map.0 within in
    let is_small_pair = (λ j. is_small (tree.Tuple (key j ∷ value j ∷ []))) ∙ pair_small t i d c.requires.map.0 c.size-size.ensures.few c.depth-depth.ensures.low within in
    memory_refused c.from_residual.result c.in_err-pair.field-0.0 c.from_residual.ensures.1 (wants_memory _ _ c.in_err-pair.ensures.limits is_small_pair)

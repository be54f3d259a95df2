use Rattle.std.proofs.Common.{ap, sym, subst, ◌∙◌, arith}
use Rattle.std.specs.BTreeMap.{insert_entry}
use Rattle.kh_term.specs.declared.tree.TermTree.TheVariants as tree
use Rattle.kh_term.specs.Order.{term_cmp}
use Rattle.kh_heap.specs.Heap.{term_at, pairs_at}
use Rattle.kh_heap.specs.Parts.{pairs_in}
use Rattle.kh_bif_data.proofs.Answering.{GrewBy-of, built_by, same_built}
use Rattle.kh_bif_data.proofs.Lengths.{put_length, shown_length}
use Rattle.kh_bif_data.proofs.Ordered.{Rise, put_rises}
use Rattle.kh_bif_data.proofs.Searching.{map_rises, map_fits}
use Rattle.kh_bif_data.proofs.changing.with.Goals as goal

pub map-requires-clause-rising : goal.map-requires-clause-rising
map-requires-clause-rising c =
    let heap = c.args.heap.now in
    let t = term_at heap c.args.m in
    let is = c.requires.map.0 in
    subst Rise (sym (ap (pairs_at heap) c.as_slice.ensures.value ∙ c.in_ok-items.ensures.terms))
    (put_rises (pairs_in t) (term_at heap c.args.key) (term_at heap c.args.item) (map_rises t is c.size-map.ensures.fits) (map_fits t is c.size-map.ensures.fits) c.size-key.ensures.fits)

pub returns-clause-built : goal.returns-clause-built
returns-clause-built c =
    let heap = c.args.heap.now in
    same_built c.map.new.self c.map.result (tree.Map (pairs_at heap c.as_slice.result.now)) (tree.Map (insert_entry term_cmp (pairs_in (term_at heap c.args.m)) (term_at heap c.args.key) (term_at heap c.args.item)))
    (ap tree.Map (ap (pairs_at heap) c.as_slice.ensures.value ∙ c.in_ok-items.ensures.terms)) (built_by c.map.new.self c.map.result _ c.map.ensures.term c.map.ensures.limits)

pub map-requires-clause-room : goal.map-requires-clause-room
map-requires-clause-room c =
    let heap = c.args.heap.now in
    let terms = ap (pairs_at heap) c.as_slice.ensures.value ∙ c.in_ok-items.ensures.terms in
    let ps = pairs_in (term_at heap c.args.m) in
    omega (arith, c.requires.room, c.requires.map.1, shown_length heap c.as_slice.result.now _ terms, put_length ps (term_at heap c.args.key) (term_at heap c.args.item))

pub returns-clause-grew : goal.returns-clause-grew
returns-clause-grew c =
    let heap = c.args.heap.now in
    let terms = ap (pairs_at heap) c.as_slice.ensures.value ∙ c.in_ok-items.ensures.terms in
    let ps = pairs_in (term_at heap c.args.m) in
    GrewBy-of _ heap c.map.new.self c.map.ensures.grew
    (omega (arith, c.map.ensures.cells, c.requires.map.1, shown_length heap c.as_slice.result.now _ terms, put_length ps (term_at heap c.args.key) (term_at heap c.args.item)))

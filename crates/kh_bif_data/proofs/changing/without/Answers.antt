use Rattle.std.proofs.Common.{◌≡◌, ◌<◌, length, ap, sym, subst, ◌∙◌, arith}
use Rattle.std.specs.List as lists
use Rattle.kh_term.specs.declared.tree.TermTree.TheVariants as tree
use Rattle.kh_heap.specs.Heap.{term_at, pairs_at, HoldsPairs}
use Rattle.kh_heap.specs.Parts.{pairs_in}
use Rattle.kh_bif_data.proofs.Answering.{GrewBy-of, built_by, same_built}
use Rattle.kh_bif_data.proofs.Editing.{map-removed, All-removed}
use Rattle.kh_bif_data.proofs.Lengths.{removed_length, shown_length}
use Rattle.kh_bif_data.proofs.Merged.{shown, Held}
use Rattle.kh_bif_data.proofs.Ordered.{Rise, removed_rises}
use Rattle.kh_bif_data.proofs.Searching.{map_rises, map_fits}
use Rattle.kh_bif_data.proofs.changing.without.Goals as goal

pub map-requires-clause-held : goal.map-requires-clause-held
map-requires-clause-held c =
    let heap = c.args.heap.now in
    subst (λ us. HoldsPairs heap us) (sym (c.as_slice.ensures.value ∙ c.remove.ensures.items)) (All-removed (Held heap) c.in_ok-items.items.items c.args.at c.in_ok-items.ensures.held)

pub map-requires-clause-rising : goal.map-requires-clause-rising
map-requires-clause-rising c =
    let heap = c.args.heap.now in
    let t = term_at heap c.args.m in
    let is = c.requires.map.0 in
    let left : pairs_at heap c.as_slice.result.now ≡ lists.remove (pairs_in t) c.args.at =
    ap (pairs_at heap) (c.as_slice.ensures.value ∙ c.remove.ensures.items) ∙ map-removed (shown heap) c.in_ok-items.items.items c.args.at ∙ ap (λ ps. lists.remove ps c.args.at) c.in_ok-items.ensures.terms
    in
    subst Rise (sym left) (removed_rises (pairs_in t) c.args.at (map_rises t is c.size-map.ensures.fits) (map_fits t is c.size-map.ensures.fits))

pub returns-clause-built : goal.returns-clause-built
returns-clause-built c =
    let heap = c.args.heap.now in
    let t = term_at heap c.args.m in
    let left : pairs_at heap c.as_slice.result.now ≡ lists.remove (pairs_in t) c.args.at =
    ap (pairs_at heap) (c.as_slice.ensures.value ∙ c.remove.ensures.items) ∙ map-removed (shown heap) c.in_ok-items.items.items c.args.at ∙ ap (λ ps. lists.remove ps c.args.at) c.in_ok-items.ensures.terms
    in
    same_built c.map.new.self c.map.result (tree.Map (pairs_at heap c.as_slice.result.now)) (tree.Map (lists.remove (pairs_in t) c.args.at)) (ap tree.Map left)
    (built_by c.map.new.self c.map.result _ c.map.ensures.term c.map.ensures.limits)

pub map-requires-clause-room : goal.map-requires-clause-room
map-requires-clause-room c =
    let heap = c.args.heap.now in
    let items = c.in_ok-items.items.items in
    let many = shown_length heap items (pairs_in (term_at heap c.args.m)) c.in_ok-items.ensures.terms in
    let here : c.args.at < length items = omega (arith, c.requires.within, c.requires.map.1, many) in
    omega (arith, c.requires.room, c.requires.map.1, many, removed_length items c.args.at here, ap length (c.as_slice.ensures.value ∙ c.remove.ensures.items))

pub returns-clause-grew : goal.returns-clause-grew
returns-clause-grew c =
    let heap = c.args.heap.now in
    let items = c.in_ok-items.items.items in
    let many = shown_length heap items (pairs_in (term_at heap c.args.m)) c.in_ok-items.ensures.terms in
    let here : c.args.at < length items = omega (arith, c.requires.within, c.requires.map.1, many) in
    GrewBy-of _ heap c.map.new.self c.map.ensures.grew
    (omega (arith, c.map.ensures.cells, c.requires.map.1, many, removed_length items c.args.at here, ap length (c.as_slice.ensures.value ∙ c.remove.ensures.items)))

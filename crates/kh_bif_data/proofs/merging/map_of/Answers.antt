use Rattle.std.proofs.Common.{ap, sym, subst, ◌∙◌, arith}
use Rattle.kh_term.specs.declared.tree.TermTree.TheVariants as tree
use Rattle.kh_term.specs.MapOf.{map_of}
use Rattle.kh_heap.specs.Heap.{pairs_at, HoldsPairs}
use Rattle.kh_bif_data.proofs.Answering.{GrewBy-of, built_by, same_built}
use Rattle.kh_bif_data.proofs.Lengths.{of_length, shown_length}
use Rattle.kh_bif_data.proofs.Ordered.{Rise}
use Rattle.kh_bif_data.proofs.Sorting.{of_rises}
use Rattle.std.proofs.lemmas.List.{length-map}
use Rattle.kh_bif_data.proofs.Merged.{shown}
use Rattle.kh_bif_data.proofs.merging.map_of.Goals as goal

pub map-requires-clause-rising : goal.map-requires-clause-rising
map-requires-clause-rising c =
    let heap = c.args.heap.now in
    let all = ap (pairs_at heap) c.as_slice-2.ensures.value ∙ c.in_ok-pairs.ensures.terms ∙ ap (λ us. map_of (pairs_at heap us)) c.as_slice.ensures.value in
    subst Rise (sym all) (of_rises (pairs_at heap c.args.all.items) c.requires.fit)

pub map-requires-clause-room : goal.map-requires-clause-room
map-requires-clause-room c =
    let heap = c.args.heap.now in
    let given = pairs_at heap c.args.all.items in
    let all = ap (pairs_at heap) c.as_slice-2.ensures.value ∙ c.in_ok-pairs.ensures.terms ∙ ap (λ us. map_of (pairs_at heap us)) c.as_slice.ensures.value in
    omega (arith, c.requires.room, shown_length heap c.as_slice-2.result.now (map_of given) all, of_length given, length-map c.args.all.items (shown heap))

pub returns-clause-built : goal.returns-clause-built
returns-clause-built c =
    let heap = c.args.heap.now in
    let all = ap (pairs_at heap) c.as_slice-2.ensures.value ∙ c.in_ok-pairs.ensures.terms ∙ ap (λ us. map_of (pairs_at heap us)) c.as_slice.ensures.value in
    same_built c.map.new.self c.map.result (tree.Map (pairs_at heap c.as_slice-2.result.now)) (tree.Map (map_of (pairs_at heap c.args.all.items))) (ap tree.Map all)
    (built_by c.map.new.self c.map.result _ c.map.ensures.term c.map.ensures.limits)

pub returns-clause-grew : goal.returns-clause-grew
returns-clause-grew c =
    let heap = c.args.heap.now in
    let given = pairs_at heap c.args.all.items in
    let all = ap (pairs_at heap) c.as_slice-2.ensures.value ∙ c.in_ok-pairs.ensures.terms ∙ ap (λ us. map_of (pairs_at heap us)) c.as_slice.ensures.value in
    GrewBy-of _ heap c.map.new.self c.map.ensures.grew
    (omega (arith, c.map.ensures.cells, shown_length heap c.as_slice-2.result.now (map_of given) all, of_length given, length-map c.args.all.items (shown heap)))

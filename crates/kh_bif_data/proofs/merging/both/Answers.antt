use Rattle.std.proofs.Common.{◌≡◌, ap, sym, subst, ◌∙◌, arith}
use Rattle.kh_term.specs.declared.tree.TermTree.TheVariants as tree
use Rattle.kh_term.specs.MapOf.{map_with}
use Rattle.kh_heap.specs.Heap.{term_at, pairs_at, HoldsPairs}
use Rattle.kh_heap.specs.Parts.{pairs_in}
use Rattle.kh_bif_data.specs.Maps.{ByKeys}
use Rattle.kh_bif_data.proofs.Answering.{GrewBy-of, built_by, same_built}
use Rattle.kh_bif_data.proofs.Lengths.{with_length, shown_length}
use Rattle.kh_bif_data.proofs.Ordered.{Rise}
use Rattle.kh_bif_data.proofs.Searching.{map_rises, map_fits}
use Rattle.kh_bif_data.proofs.Sorting.{with_rises}
use Rattle.kh_bif_data.proofs.merging.both.Goals as goal

pub merged-requires-clause-first_rises : goal.merged-requires-clause-first_rises
merged-requires-clause-first_rises c =
    let heap = c.args.heap.now in
    let t = term_at heap c.args.a in
    let is = c.requires.a_map.0 in
    subst ByKeys (sym (ap (pairs_at heap) c.as_slice.ensures.value ∙ c.in_ok-first.ensures.terms))
    record { rising = map_rises t is c.size-first.ensures.fits; fit = map_fits t is c.size-first.ensures.fits }

pub merged-requires-clause-second_rises : goal.merged-requires-clause-second_rises
merged-requires-clause-second_rises c =
    let heap = c.args.heap.now in
    let t = term_at heap c.args.b in
    let is = c.requires.b_map.0 in
    subst ByKeys (sym (ap (pairs_at heap) c.as_slice-2.ensures.value ∙ c.in_ok-second.ensures.terms))
    record { rising = map_rises t is c.size-second.ensures.fits; fit = map_fits t is c.size-second.ensures.fits }

pub map-requires-clause-rising : goal.map-requires-clause-rising
map-requires-clause-rising c =
    let heap = c.args.heap.now in
    let a = term_at heap c.args.a in
    let b = term_at heap c.args.b in
    let first = ap (pairs_at heap) c.as_slice.ensures.value ∙ c.in_ok-first.ensures.terms in
    let second = ap (pairs_at heap) c.as_slice-2.ensures.value ∙ c.in_ok-second.ensures.terms in
    let all = ap (pairs_at heap) c.as_slice-3.ensures.value ∙ c.in_ok-all.ensures.terms ∙ (λ i. map_with (first i) (second i)) in
    subst Rise (sym all)
    (with_rises (pairs_in a) (pairs_in b) (map_rises a c.requires.a_map.0 c.size-first.ensures.fits) (map_fits a c.requires.a_map.0 c.size-first.ensures.fits) (map_fits b c.requires.b_map.0 c.size-second.ensures.fits))

pub returns-clause-built : goal.returns-clause-built
returns-clause-built c =
    let heap = c.args.heap.now in
    let first = ap (pairs_at heap) c.as_slice.ensures.value ∙ c.in_ok-first.ensures.terms in
    let second = ap (pairs_at heap) c.as_slice-2.ensures.value ∙ c.in_ok-second.ensures.terms in
    let all = ap (pairs_at heap) c.as_slice-3.ensures.value ∙ c.in_ok-all.ensures.terms ∙ (λ i. map_with (first i) (second i)) in
    same_built c.map.new.self c.map.result (tree.Map (pairs_at heap c.as_slice-3.result.now)) (tree.Map (map_with (pairs_in (term_at heap c.args.a)) (pairs_in (term_at heap c.args.b)))) (ap tree.Map all)
    (built_by c.map.new.self c.map.result _ c.map.ensures.term c.map.ensures.limits)

pub map-requires-clause-room : goal.map-requires-clause-room
map-requires-clause-room c =
    let heap = c.args.heap.now in
    let a = pairs_in (term_at heap c.args.a) in
    let b = pairs_in (term_at heap c.args.b) in
    let first = ap (pairs_at heap) c.as_slice.ensures.value ∙ c.in_ok-first.ensures.terms in
    let second = ap (pairs_at heap) c.as_slice-2.ensures.value ∙ c.in_ok-second.ensures.terms in
    let all = ap (pairs_at heap) c.as_slice-3.ensures.value ∙ c.in_ok-all.ensures.terms ∙ (λ i. map_with (first i) (second i)) in
    omega (arith, c.requires.room, c.requires.a_map.1, c.requires.b_map.1, shown_length heap c.as_slice-3.result.now (map_with a b) all, with_length a b)

pub returns-clause-grew : goal.returns-clause-grew
returns-clause-grew c =
    let heap = c.args.heap.now in
    let a = pairs_in (term_at heap c.args.a) in
    let b = pairs_in (term_at heap c.args.b) in
    let first = ap (pairs_at heap) c.as_slice.ensures.value ∙ c.in_ok-first.ensures.terms in
    let second = ap (pairs_at heap) c.as_slice-2.ensures.value ∙ c.in_ok-second.ensures.terms in
    let all = ap (pairs_at heap) c.as_slice-3.ensures.value ∙ c.in_ok-all.ensures.terms ∙ (λ i. map_with (first i) (second i)) in
    GrewBy-of _ heap c.map.new.self c.map.ensures.grew
    (omega (arith, c.map.ensures.cells, c.requires.a_map.1, c.requires.b_map.1, shown_length heap c.as_slice-3.result.now (map_with a b) all, with_length a b))

use Rattle.std.proofs.Common.{◌≡◌, length, sym, ap, subst, ◌∙◌, arith}
use Rattle.std.proofs.lemmas.List.{map-set, length-set, length-map}
use Rattle.std.proofs.lemmas.List.Elements.{All-set}
use Rattle.std.specs.Prelude.{slice_set}
use Rattle.kh_term.specs.declared.tree.TermTree.TheVariants as tree
use Rattle.kh_heap.specs.Heap.{term_at, terms_at, Holds, HoldsAll}
use Rattle.kh_heap.specs.Parts.{parts_in}
use Rattle.kh_bif_data.proofs.Answering.{GrewBy-of, built_by, same_built}
use Rattle.kh_bif_data.proofs.tuples.with_element.Goals as goal

pub tuple-requires-clause-held : goal.tuple-requires-clause-held
tuple-requires-clause-held c =
    let heap = c.args.heap.now in
    subst (λ rs. HoldsAll heap rs) (sym c.as_slice.ensures.value) (All-set (Holds heap) c.in_ok-items.items.items c.args.place c.args.item c.requires.second c.in_ok-items.ensures.held)

pub tuple-requires-clause-room : goal.tuple-requires-clause-room
tuple-requires-clause-room c =
    let heap = c.args.heap.now in
    let items = c.in_ok-items.items.items in
    omega (arith, c.requires.room, c.requires.count, ap length c.as_slice.ensures.value, length-set items c.args.place c.args.item, length-map items (term_at heap), ap length c.in_ok-items.ensures.terms)

pub returns-clause-built : goal.returns-clause-built
returns-clause-built c =
    let heap = c.args.heap.now in
    let items = c.in_ok-items.items.items in
    same_built c.tuple.new.self c.tuple.result (tree.Tuple (terms_at heap c.as_slice.result.now)) (tree.Tuple (slice_set (parts_in (term_at heap c.args.t)) c.args.place (term_at heap c.args.item)))
    (
    ap tree.Tuple (
    ap (terms_at heap) c.as_slice.ensures.value ∙ map-set (term_at heap) items c.args.place c.args.item
    ∙ ap (λ ts. slice_set ts c.args.place (term_at heap c.args.item)) c.in_ok-items.ensures.terms
    )
    )
    (built_by c.tuple.new.self c.tuple.result _ c.tuple.ensures.term c.tuple.ensures.limits)

pub returns-clause-grew : goal.returns-clause-grew
returns-clause-grew c =
    let heap = c.args.heap.now in
    let items = c.in_ok-items.items.items in
    GrewBy-of _ heap c.tuple.new.self c.tuple.ensures.grew
    (
    omega (
      arith,
      c.tuple.ensures.cells,
      c.requires.count,
      ap length c.as_slice.ensures.value,
      length-set items c.args.place c.args.item,
      length-map items (term_at heap),
      ap length c.in_ok-items.ensures.terms,
    )
    )

use Rattle.std.proofs.Common.{◌<◌, ◌+◌, ◌*◌, sym, ap, subst, ◌∙◌, List, ℕ, length, map, arith}
use Rattle.std.proofs.lemmas.List.{get_or-map, length-map}
use Rattle.kh_term.specs.declared.tree.TermTree.{TermTree}
use Rattle.kh_term.specs.declared.tree.TermTree.TheVariants as tree
use Rattle.kh_heap.specs.Heap.{term_at, terms_at, HoldsAll}
use Rattle.kh_heap.specs.Parts.{pairs_in, side}
use Rattle.kh_bif_data.proofs.Collecting.{held_more, terms_more, part_at}
use Rattle.kh_bif_data.proofs.elements.half.Goals as goal

pub loop-i-preserved : goal.loop-i-preserved
loop-i-preserved c =
    let heap = c.args.heap.now in
    let had = c.loop-i.invariant in
    let rs = c.loop-i.items.items in
    let t = term_at heap c.args.r in
    let i = c.loop-i.i in
    let within : i < length (pairs_in t) = omega (arith, c.loop-i-test.true, c.requires.map.1) in
    let d : TermTree × TermTree = (tree.Nil, tree.Nil) in
    record {
      held = subst (λ (us : List ℕ). HoldsAll heap us) (sym c.in_ok-push.ensures.items) (held_more heap rs c.part.result had.held c.part.ensures.held);
      terms =
          ap (terms_at heap) c.in_ok-push.ensures.items
          ∙ terms_more heap rs c.part.result (map (side c.args.half) (pairs_in t)) i tree.Nil had.terms (omega (arith, within, length-map (pairs_in t) (side c.args.half)))
          (c.part.ensures.part ∙ part_at t i c.args.half d c.requires.map.0 c.requires.half within ∙ sym (get_or-map (side c.args.half) (pairs_in t) i d tree.Nil within));
    }

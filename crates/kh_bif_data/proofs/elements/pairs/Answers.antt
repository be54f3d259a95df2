use Rattle.std.proofs.Common.{◌<◌, ◌+◌, ◌*◌, sym, ap, subst, ◌∙◌, List, ℕ, length, arith}
use Rattle.kh_term.specs.declared.tree.TermTree.{TermTree}
use Rattle.kh_term.specs.declared.tree.TermTree.TheVariants as tree
use Rattle.kh_heap.specs.Heap.{term_at, pairs_at, HoldsPairs}
use Rattle.kh_heap.specs.Parts.{pairs_in}
use Rattle.kh_bif_data.proofs.Collecting.{pairs_held_more, pairs_more, key_at, value_at}
use Rattle.kh_bif_data.proofs.elements.pairs.Goals as goal

pub loop-i-preserved : goal.loop-i-preserved
loop-i-preserved c =
    let heap = c.args.heap.now in
    let had = c.loop-i.invariant in
    let rs = c.loop-i.items.items in
    let t = term_at heap c.args.r in
    let i = c.loop-i.i in
    let k = c.part-key.result in
    let v = c.part-value.result in
    let within : i < length (pairs_in t) = omega (arith, c.loop-i-test.true, c.requires.map.1) in
    let d : TermTree × TermTree = (tree.Nil, tree.Nil) in
    record {
      held = subst (λ (us : List (ℕ × ℕ)). HoldsPairs heap us) (sym c.in_ok-push.ensures.items) (pairs_held_more heap rs k v had.held c.part-key.ensures.held c.part-value.ensures.held);
      terms =
          ap (pairs_at heap) c.in_ok-push.ensures.items
          ∙ pairs_more heap rs k v (pairs_in t) i d had.terms within (c.part-key.ensures.part ∙ key_at t i d c.requires.map.0 within) (c.part-value.ensures.part ∙ value_at t i d c.requires.map.0 within);
    }

use Rattle.std.proofs.Common.{sym, ap, subst, ◌∙◌, List, ℕ, arith}
use Rattle.kh_term.specs.declared.tree.TermTree.TheVariants as tree
use Rattle.kh_heap.specs.Heap.{term_at, terms_at, HoldsAll}
use Rattle.kh_heap.specs.Parts.{parts_in}
use Rattle.kh_bif_data.proofs.Collecting.{held_more, terms_more}
use Rattle.kh_bif_data.proofs.elements.parts.Goals as goal

pub loop-i-preserved : goal.loop-i-preserved
loop-i-preserved c =
    let heap = c.args.heap.now in
    let had = c.loop-i.invariant in
    let rs = c.loop-i.items.items in
    record {
      held = subst (λ (us : List ℕ). HoldsAll heap us) (sym c.in_ok-push.ensures.items) (held_more heap rs c.part.result had.held c.part.ensures.held);
      terms =
          ap (terms_at heap) c.in_ok-push.ensures.items
          ∙ terms_more heap rs c.part.result (parts_in (term_at heap c.args.r)) c.loop-i.i tree.Nil had.terms (omega (arith, c.loop-i-test.true, c.requires.count)) c.part.ensures.part;
    }

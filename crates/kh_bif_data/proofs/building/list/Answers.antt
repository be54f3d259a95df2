use Rattle.std.proofs.Common.{◌≡◌, ap, ◌∙◌, arith}
use Rattle.kh_term.specs.declared.tree.TermTree.TheVariants as tree
use Rattle.kh_term.specs.Make.{list_of, list_with_tail}
use Rattle.kh_heap.specs.Heap.{term_at, terms_at}
use Rattle.kh_heap.proofs.Growth.{HoldsAll-grew, terms_at-grew}
use Rattle.kh_bif_data.proofs.Answering.{GrewBy-trans, same_built, small_refused, small-Nil}
use Rattle.kh_bif_data.proofs.Conses.{list-onto}
use Rattle.kh_bif_data.proofs.building.list.Goals as goal

pub onto-requires-clause-items : goal.onto-requires-clause-items
onto-requires-clause-items c = HoldsAll-grew c.args.heap.now c.empty.new.heap c.args.items.now c.empty.ensures.grew.grew c.requires.items

pub onto-requires-clause-tail : goal.onto-requires-clause-tail
onto-requires-clause-tail c = c.in_ok-nil.ensures.built.0.held

pub onto-requires-clause-room : goal.onto-requires-clause-room
onto-requires-clause-room c = omega (arith, c.requires.room, c.empty.ensures.grew.cells)

pub returns-clause-built : goal.returns-clause-built
returns-clause-built c =
    let old = c.args.heap.now in
    let heap = c.empty.new.heap in
    let items = c.args.items.now in
    let nil : term_at heap c.in_ok-nil.nil ≡ tree.Nil = c.in_ok-nil.ensures.built.0.term in
    let terms : terms_at heap items ≡ terms_at old items = terms_at-grew old heap items c.empty.ensures.grew.grew c.requires.items in
    same_built c.onto.new.heap c.onto.result (list_with_tail (terms_at heap items) (term_at heap c.in_ok-nil.nil)) (list_of (terms_at old items))
    ((λ i. list_with_tail (terms i) (nil i)) ∙ list-onto (terms_at old items)) c.onto.ensures.built

pub returns-clause-grew : goal.returns-clause-grew
returns-clause-grew c = GrewBy-trans 2 _ _ c.args.heap.now c.empty.new.heap c.onto.new.heap (omega arith) c.empty.ensures.grew c.onto.ensures.grew

pub returns-in_err-nil-clause-built : goal.returns-in_err-nil-clause-built
returns-in_err-nil-clause-built c =
    small_refused c.empty.new.heap c.empty.new.heap tree.Nil _ c.in_err-nil.field-0.0 c.from_residual.result c.in_err-nil.ensures.built small-Nil c.from_residual.ensures.1

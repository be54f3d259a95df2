use Rattle.std.proofs.Common.{◌≡◌, length, ap, ◌∙◌, arith}
use Rattle.kh_term.specs.declared.tree.TermTree.TheVariants as tree
use Rattle.kh_heap.specs.Heap.{term_at}
use Rattle.kh_heap.proofs.Growth.{Holds-grew, term_at-grew}
use Rattle.kh_bif_data.specs.Lists.{elements, reverse_onto}
use Rattle.kh_bif_data.proofs.Answering.{GrewBy-trans, same_answer}
use Rattle.kh_bif_data.proofs.lists.reverse.Goals as goal

pub reverse_onto-requires-clause-first : goal.reverse_onto-requires-clause-first
reverse_onto-requires-clause-first c = Holds-grew c.args.heap.now c.empty.new.heap c.args.a c.empty.ensures.grew.grew c.requires.held

pub reverse_onto-requires-clause-second : goal.reverse_onto-requires-clause-second
reverse_onto-requires-clause-second c = c.in-Ok.ensures.built.0.held

pub reverse_onto-requires-clause-room : goal.reverse_onto-requires-clause-room
reverse_onto-requires-clause-room c =
    let same = term_at-grew c.args.heap.now c.empty.new.heap c.args.a c.empty.ensures.grew.grew c.requires.held in
    omega (arith, c.requires.room, c.empty.ensures.grew.cells, ap (λ t. length (elements t)) same)

pub returns-in-Ok : goal.returns-in-Ok
returns-in-Ok c =
    let old = c.args.heap.now in
    let heap = c.empty.new.heap in
    let same : term_at heap c.args.a ≡ term_at old c.args.a = term_at-grew old heap c.args.a c.empty.ensures.grew.grew c.requires.held in
    let nil : term_at heap c.in-Ok.nil ≡ tree.Nil = c.in-Ok.ensures.built.0.term in
    record {
      answer = same_answer c.reverse_onto.new.heap c.reverse_onto.result _ (reverse_onto (term_at old c.args.a) tree.Nil) (λ i. reverse_onto (same i) (nil i)) c.reverse_onto.ensures.answer;
      grew =
          GrewBy-trans 2 _ _ old heap c.reverse_onto.new.heap (omega (arith, ap (λ t. length (elements t)) same)) c.empty.ensures.grew c.reverse_onto.ensures.grew;
    }

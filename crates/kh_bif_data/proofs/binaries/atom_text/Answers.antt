use Rattle.std.proofs.Common.{length, ap, ◌∙◌, arith}
use Rattle.kh_term.specs.declared.tree.TermTree.TheVariants as tree
use Rattle.kh_term.proofs.Layers.{size-Bin}
use Rattle.kh_heap.specs.Heap.{term_at}
use Rattle.kh_heap.specs.Parts.{text_in}
use Rattle.kh_bif_data.proofs.Answering.{GrewBy-more, same_built}
use Rattle.kh_bif_data.proofs.binaries.atom_text.Goals as goal

pub binary-requires : goal.binary-requires
binary-requires c =
    let same = c.in_ok-text.ensures.items ∙ c.as_slice.ensures.text ∙ c.atom.ensures in
    omega (arith, c.requires.room, ap length same, size-Bin (text_in (term_at c.args.heap.now c.args.a)))

pub returns-clause-built : goal.returns-clause-built
returns-clause-built c =
    let same = c.in_ok-text.ensures.items ∙ c.as_slice.ensures.text ∙ c.atom.ensures in
    same_built c.binary.new.heap c.binary.result (tree.Bin c.in_ok-text.text.items) (tree.Bin (text_in (term_at c.args.heap.now c.args.a))) (ap tree.Bin same) c.binary.ensures.built

pub returns-clause-grew : goal.returns-clause-grew
returns-clause-grew c =
    let same = c.in_ok-text.ensures.items ∙ c.as_slice.ensures.text ∙ c.atom.ensures in
    GrewBy-more _ _ c.args.heap.now c.binary.new.heap (omega (arith, ap length same, size-Bin (text_in (term_at c.args.heap.now c.args.a)))) c.binary.ensures.grew

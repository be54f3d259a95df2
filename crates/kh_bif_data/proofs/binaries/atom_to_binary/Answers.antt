use Rattle.std.proofs.Common.{◌≡◌, ap, sym, ◌∙◌, length, arith}
use Rattle.kh_term.specs.declared.tree.TermTree.TheVariants as tree
use Rattle.kh_term.proofs.Layers.{size-Bin}
use Rattle.kh_heap.specs.Heap.{term_at}
use Rattle.kh_heap.specs.Parts.{text_in}
use Rattle.kh_bif_base.specs.Answer.{Value, badarg, limited}
use Rattle.kh_bif_data.specs.Answer.{size_answered}
use Rattle.kh_bif_data.specs.Binaries.{atom_to_binary}
use Rattle.kh_bif_data.proofs.Answering.{GrewBy-more, GrewBy-trans, same_answer}
use Rattle.kh_bif_data.proofs.Asking.{text_answer, no_text_answer}
use Rattle.kh_bif_data.proofs.Costs.{bin_size, text_few}
use Rattle.kh_bif_data.proofs.binaries.atom_to_binary.Goals as goal

pub atom_text-built-requires-clause-room : goal.atom_text-built-requires-clause-room
atom_text-built-requires-clause-room c =
    let heap = c.args.heap.now in
    let t = term_at heap c.args.a in
    let few = text_few c.atom-text.result.now c.as_slice-fits.ensures.fits in
    let size = bin_size (text_in t) (omega (arith, few, ap length c.atom-text.ensures)) in
    let cost = ap (λ a. size_answered (limited a)) (text_answer heap t (λ text. Value (tree.Bin text)) c.in-Atom.ensures) in
    omega (arith, c.requires.room, size, cost, size-Bin (text_in t))

pub answer-requires : goal.answer-requires
answer-requires c =
    let heap = c.args.heap.now in
    let t = term_at heap c.args.a in
    let few = text_few c.atom-text.result.now c.as_slice-fits.ensures.fits in
    let size = bin_size (text_in t) (omega (arith, few, ap length c.atom-text.ensures)) in
    let cost = ap (λ a. size_answered (limited a)) (text_answer heap t (λ text. Value (tree.Bin text)) c.in-Atom.ensures) in
    omega (arith, c.requires.room, c.atom_text-built.ensures.grew.cells, size, cost, size-Bin (text_in t))

pub returns-in-Atom : goal.returns-in-Atom
returns-in-Atom c =
    let heap = c.args.heap.now in
    let t = term_at heap c.args.a in
    let few = text_few c.atom-text.result.now c.as_slice-fits.ensures.fits in
    let size = bin_size (text_in t) (omega (arith, few, ap length c.atom-text.ensures)) in
    let cost = ap (λ a. size_answered (limited a)) (text_answer heap t (λ text. Value (tree.Bin text)) c.in-Atom.ensures) in
    let built = tree.Bin (text_in t) in
    record {
      answer =
          same_answer c.answer.new.heap c.answer.result (Value built) (atom_to_binary t) (text_answer heap t (λ text. Value (tree.Bin text)) c.in-Atom.ensures)
          (c.answer.ensures.answer built c.atom_text-built.ensures.built);
      grew = GrewBy-trans _ 2 _ heap c.atom_text-built.new.heap c.answer.new.heap (omega (arith, size, cost, size-Bin (text_in t))) c.atom_text-built.ensures.grew c.answer.ensures.grew;
    }

pub returns-in_default : goal.returns-in_default
returns-in_default c =
    let heap = c.args.heap.now in
    let t = term_at heap c.args.a in
    record {
      answer =
          same_answer c.raise.new.heap c.raise.result badarg (atom_to_binary t) (no_text_answer heap t c.view.result (λ text. Value (tree.Bin text)) c.view.ensures (λ e. c.in_default.not-Atom e))
          c.raise.ensures.answer;
      grew = GrewBy-more 2 _ heap c.raise.new.heap (omega arith) c.raise.ensures.grew;
    }

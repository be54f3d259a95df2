use Rattle.std.proofs.Common.{◌≡◌, ◌≤◌, ◌+◌, ◌/◌, ◌∙◌, length, sym, ap, arith}
use Rattle.std.specs.Prelude.{codes}
use Rattle.kh_term.specs.declared.kinds.Class.TheVariants as class
use Rattle.kh_term.specs.declared.tree.TermTree.TheVariants as tree
use Rattle.kh_heap.specs.Heap.{term_at}
use Rattle.kh_heap.specs.Parts.{text_in}
use Rattle.kh_bif_base.specs.Answer.{Value, limited}
use Rattle.kh_bif_data.specs.Answer.{size_answered}
use Rattle.kh_bif_data.proofs.Asking.{text_answer, no_text_answer}
use Rattle.kh_bif_data.proofs.Costs.{bin_size, raised_size, text_few}
use Rattle.kh_bif_data.proofs.charging.atom_size.Goals as goal

pub returns-in-Atom : goal.returns-in-Atom
returns-in-Atom c =
    let t = term_at c.args.heap.now c.args.a in
    let same = c.as_slice-text.ensures.text ∙ c.atom.ensures in
    let few = text_few c.atom.result.now c.as_slice-text.ensures.fits in
    let long = ap length same in
    c.binary_size.ensures ∙ ap (λ n. 1 + (n + 7) / 8) long ∙ sym (bin_size (text_in t) (omega (arith, few, ap length c.atom.ensures)))
    ∙ ap (λ a. size_answered (limited a)) (text_answer c.args.heap.now t (λ text. Value (tree.Bin text)) c.in-Atom.ensures)

pub returns-in_default : goal.returns-in_default
returns-in_default c =
    let t = term_at c.args.heap.now c.args.a in
    sym (raised_size class.Error (tree.Atom (codes "badarg")))
    ∙ ap (λ a. size_answered (limited a)) (no_text_answer c.args.heap.now t c.view.result (λ text. Value (tree.Bin text)) c.view.ensures (λ e. c.in_default.not-Atom e))

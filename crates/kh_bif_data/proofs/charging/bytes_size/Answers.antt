use Rattle.std.proofs.Common.{◌+◌, ◌*◌, ◌∙◌, sym, ap, arith}
use Rattle.kh_term.specs.declared.kinds.Class.TheVariants as class
use Rattle.kh_term.specs.declared.tree.TermTree.TheVariants as tree
use Rattle.kh_term.specs.Make.{list_of}
use Rattle.std.specs.Prelude.{codes, map}
use Rattle.kh_heap.specs.Heap.{term_at}
use Rattle.kh_heap.specs.Parts.{bytes_in}
use Rattle.kh_bif_base.specs.Answer.{Value, limited}
use Rattle.kh_bif_data.specs.Answer.{size_answered}
use Rattle.kh_bif_data.specs.Binaries.{byte_tree}
use Rattle.kh_bif_data.proofs.Asking.{bin_answer, no_bin_answer}
use Rattle.kh_bif_data.proofs.Costs.{within, list_within, raised_size}
use Rattle.kh_bif_data.proofs.charging.bytes_size.Goals as goal

pub returns-in-Bin : goal.returns-in-Bin
returns-in-Bin c =
    let t = term_at c.args.heap.now c.args.b in
    c.within.ensures ∙ ap (λ k. within (2 * k + 1)) c.from.ensures ∙ sym (list_within (bytes_in t) c.in-Bin.count c.in-Bin.ensures.1)
    ∙ ap (λ a. size_answered (limited a)) (bin_answer c.args.heap.now t c.in-Bin.count (λ bytes. Value (list_of (map byte_tree bytes))) c.in-Bin.ensures)

pub returns-in_default : goal.returns-in_default
returns-in_default c =
    let t = term_at c.args.heap.now c.args.b in
    sym (raised_size class.Error (tree.Atom (codes "badarg")))
    ∙ ap (λ a. size_answered (limited a)) (no_bin_answer c.args.heap.now t c.view.result (λ bytes. Value (list_of (map byte_tree bytes))) c.view.ensures (λ n e. c.in_default.not-Bin n e))

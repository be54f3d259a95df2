use Rattle.std.proofs.Common.{sym, ap, ◌∙◌}
use Rattle.kh_heap.specs.Heap.{term_at}
use Rattle.kh_heap.specs.Parts.{bytes_in}
use Rattle.kh_bif_base.specs.Answer.{badarg}
use Rattle.kh_bif_data.specs.Binaries.{binary_to_integer, integer_of_text}
use Rattle.kh_bif_data.proofs.Answering.{same_answer}
use Rattle.kh_bif_data.proofs.Asking.{bin_answer, no_bin_answer}
use Rattle.kh_bif_data.proofs.binaries.binary_to_integer.Goals as goal

pub returns-in-Ok-clause-answer : goal.returns-in-Ok-clause-answer
returns-in-Ok-clause-answer c =
    let heap = c.args.heap.now in
    let t = term_at heap c.args.b in
    same_answer c.integer_of.new.heap c.integer_of.result (integer_of_text c.as_slice.result.now) (binary_to_integer t)
    (ap integer_of_text (c.as_slice.ensures.value ∙ c.in-Ok.ensures) ∙ bin_answer heap t c.in-Bin.count integer_of_text c.in-Bin.ensures) c.integer_of.ensures.answer

pub returns-in_default-clause-answer : goal.returns-in_default-clause-answer
returns-in_default-clause-answer c =
    let heap = c.args.heap.now in
    let t = term_at heap c.args.b in
    same_answer c.raise.new.heap c.raise.result badarg (binary_to_integer t) (no_bin_answer heap t c.view.result integer_of_text c.view.ensures (λ n e. c.in_default.not-Bin n e)) c.raise.ensures.answer

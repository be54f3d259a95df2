use Rattle.std.proofs.Common.{sym, ap, ◌∙◌, Bool}
use Rattle.std.specs.Prelude.{if◌then◌else◌}
use Rattle.std.specs.Str.Parse.{signed_digits_value}
use Rattle.kh_bif_base.specs.Answer.{badarg}
use Rattle.kh_bif_base.specs.Integers.{fitted, number}
use Rattle.kh_bif_data.specs.Binaries.{integer_of_text}
use Rattle.kh_bif_data.proofs.Answering.{same_answer}
use Rattle.kh_bif_data.proofs.binaries.integer_of.Goals as goal

pub returns-then-is_numeral-clause-answer : goal.returns-then-is_numeral-clause-answer
returns-then-is_numeral-clause-answer c =
    let text = c.args.text.now in
    let read = number (fitted (signed_digits_value 10 text)) in
    same_answer c.number.new.heap c.number.result (number c.numeral.result) (integer_of_text text)
    (ap number c.numeral.ensures ∙ sym (ap (λ (b : Bool). if b then read else badarg) (sym c.is_numeral.ensures ∙ c.if-is_numeral.true))) c.number.ensures.answer

pub returns-else-is_numeral-clause-answer : goal.returns-else-is_numeral-clause-answer
returns-else-is_numeral-clause-answer c =
    let text = c.args.text.now in
    let read = number (fitted (signed_digits_value 10 text)) in
    same_answer c.raise.new.heap c.raise.result badarg (integer_of_text text)
    (sym (ap (λ (b : Bool). if b then read else badarg) (sym c.is_numeral.ensures ∙ c.if-is_numeral.false))) c.raise.ensures.answer

use Rattle.std.proofs.Common.{length, sym, ◌∙◌, arith}
use Rattle.std.specs.Char.{is_ascii_digit}
use Rattle.std.proofs.lemmas.Bool.{eqb-false}
use Rattle.std.proofs.lemmas.List.Sums.{prefix_len-le-length}
use Rattle.kh_read.proofs.Fronts.{front_read}
use Rattle.kh_read.proofs.Digits.{are_digits_from}
use Rattle.kh_read.proofs.scan.digits.Goals as goal

pub split_front-requires : goal.split_front-requires
split_front-requires c = omega (arith, prefix_len-le-length is_ascii_digit c.args.bytes.now)

pub returns-clause-text : goal.returns-clause-text
returns-clause-text c =
    let front = front_read is_ascii_digit 18 c.args.bytes.now (c.in_ok-text.text.now, c.in_ok-text.rest.now)
    (rw c.digits_len.ensures at c.in_ok-text.ensures) in
    let some = eqb-false (length c.in_ok-text.text.now) 0 (sym c.is_empty.ensures ∙ c.if-is_empty.false) in
    are_digits_from c.in_ok-text.text.now (omega arith) front.few front.passes

use Rattle.kh_read.proofs.Digits.{digits_are, digits_text, digits_parse}
use Rattle.kh_read.proofs.number.magnitude.Goals as goal

pub unreachable-requires : goal.unreachable-requires
unreachable-requires c =
    c.in-Err-parse.ensures.value.0 (rw c.in-Ok.ensures.cases.0 (digits_parse c.args.digits.now (digits_are c.args.digits.now c.requires)))

pub unreachable-requires-in-Err : goal.unreachable-requires-in-Err
unreachable-requires-in-Err c =
    c.in-Err.ensures.cases.0 (digits_text c.args.digits.now (digits_are c.args.digits.now c.requires))

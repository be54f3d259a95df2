use Rattle.std.proofs.Common.{arith}
use Rattle.std.proofs.lemmas.Grind.{common_steps}
use Rattle.kh_print.proofs.Hex.{one_digit, two_digits}
use Rattle.kh_print.proofs.pieces.push_hex.Goals as goal

pub returns-then-byte-lt16 : goal.returns-then-byte-lt16
returns-then-byte-lt16 c = grind (arith, common_steps, one_digit)

pub returns : goal.returns
returns c = grind (arith, common_steps, two_digits)

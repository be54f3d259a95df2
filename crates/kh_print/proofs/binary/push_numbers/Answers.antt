use Rattle.std.proofs.Common.{arith, decimal}
use Rattle.kh_print.proofs.Joined.{part_written}
use Rattle.kh_print.proofs.binary.push_numbers.Goals as goal

pub loop-byte-preserved : goal.loop-byte-preserved
loop-byte-preserved c =
    part_written decimal c.args.bytes.now c.loop-byte.byte-index 0 c.loop-byte.first c.loop-byte.out.items c.push_decimal.new.out.items _
    (omega arith) c.loop-byte.invariant (cc (c.in_ok-push_separator.ensures, c.in_ok-push_decimal.ensures))

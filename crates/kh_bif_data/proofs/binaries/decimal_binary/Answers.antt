use Rattle.std.proofs.Common.{arith}
use Rattle.kh_bif_data.proofs.Answering.{GrewBy-more}
use Rattle.kh_bif_data.proofs.binaries.decimal_binary.Goals as goal

pub binary-requires : goal.binary-requires
binary-requires c = omega (arith, c.requires, c.in_ok-text.ensures.few)

pub returns-clause-grew : goal.returns-clause-grew
returns-clause-grew c = GrewBy-more _ 12 c.args.heap.now c.binary.new.heap (omega (arith, c.in_ok-text.ensures.few)) c.binary.ensures.grew

use Rattle.std.proofs.Common.{rules}
use Rattle.kh_log.specs.Records.{length_of}
use Rattle.kh_log.proofs.gates.record_length.Goals as goal

pub returns-clause-is : goal.returns-clause-is
unfolding length_of
returns-clause-is c = search rules

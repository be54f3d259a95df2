use Rattle.std.proofs.Common.{[]}
use Rattle.kh_log.specs.Records.{log_of}
use Rattle.kh_log.proofs.Opening.{begun_holds, nothing_ends, if_none}
use Rattle.kh_log.proofs.log.Log.begun.Goals as goal

pub returns-in-None-clause-none_holds : goal.returns-in-None-clause-none_holds
returns-in-None-clause-none_holds c = if_none c.args.group (begun_holds c.args.file [] (log_of []) nothing_ends)

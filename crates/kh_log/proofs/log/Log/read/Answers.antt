use Rattle.std.proofs.Common.{◌≡◌, ◌<◌, Some, ap, ◌∙◌, arith}
use Rattle.std.specs.Prelude.{slice_get}
use Rattle.kh_io.proofs.{asks_both}
use Rattle.kh_log.specs.Records.{records_of}
use Rattle.kh_log.specs.Log.{Place}
use Rattle.kh_log.proofs.Walk.{told_later}
use Rattle.kh_log.proofs.log.Log.read.Goals as goal

pub returns-in_ok-bytes-in-Some-clause-next : goal.returns-in_ok-bytes-in-Some-clause-next
returns-in_ok-bytes-in-Some-clause-next g c =
    let below : c.args.self.now.file < 4 = omega (arith, c.self.invariant.0, ap (λ (p : Place). p.file) c.self.view_is) in
    told_later (λ was. slice_get (records_of was) c.args.self.now.read ≡ Some c.in_ok-bytes-in-Some.bytes.items) _ _ _
    (c.next_length.ensures.asks.files c.args.self.now.file below).read c.in_ok-bytes-in-Some.ensures.next

pub returns-in_err-bytes-in-Some-clause-asks : goal.returns-in_err-bytes-in-Some-clause-asks
returns-in_err-bytes-in-Some-clause-asks g c = asks_both c.next_length.ensures.asks c.read_record.ensures.asks

pub returns-in_ok-bytes-in-Some-clause-asks : goal.returns-in_ok-bytes-in-Some-clause-asks
returns-in_ok-bytes-in-Some-clause-asks g c = asks_both c.next_length.ensures.asks c.read_record.ensures.asks

use Rattle.std.proofs.Common.{◌≡◌, ◌<◌, ◌+◌, Some, Err, sym, ap, ◌∙◌, arith}
use Rattle.std.specs.Prelude.{slice_get}
use Rattle.kh_io.proofs.{asks_both, told_map}
use Rattle.kh_log.specs.Records.{records_of}
use Rattle.kh_log.proofs.{told_later}
use Rattle.kh_store.specs.Opening.{IsTooLong}
use Rattle.kh_store.proofs.Open.{lacks_at}
use Rattle.kh_store.proofs.Replaying.{too_long}
use Rattle.kh_store.proofs.replay.next_record.Goals as goal

pub returns-in_err-length-clause-damaged : goal.returns-in_err-length-clause-damaged
returns-in_err-length-clause-damaged g c = λ file offset is.
    let from = rw is at c.from_residual.ensures in
    let why = lacks_at c.in_err-length.field-0.0 file offset (sym from.1) in
    told_map _ _ (c.in_err-length.ensures.lacking offset (ap Err why.0)) (λ was now none. absurd none)

pub returns-then-length-gt-COMMAND_LIMIT-clause-damaged : goal.returns-then-length-gt-COMMAND_LIMIT-clause-damaged
returns-then-length-gt-COMMAND_LIMIT-clause-damaged g c = λ file offset is.
    let below : c.args.log.now.file < 4 = omega (arith, c.file-file.ensures.is, c.file-file.ensures.below) in
    let same : file ≡ c.file-file.result = cc in
    let at : offset ≡ c.args.span + 1 = cc in
    too_long _ _ c.args.log.now c.in-Some.length file offset c.args.span (c.next_length.ensures.asks.files c.args.log.now.file below).read
    (rw c.in-Some.is at c.in_ok-length.ensures.next) c.if-length-gt-COMMAND_LIMIT.true (same ∙ c.file-file.ensures.is) at

pub returns-in_err-bytes-clause-damaged : goal.returns-in_err-bytes-clause-damaged
returns-in_err-bytes-clause-damaged g c = λ file offset is.
    let below : c.args.log.now.file < 4 = omega (arith, c.file-file.ensures.is, c.file-file.ensures.below) in
    let from = rw is at c.from_residual-in_err-bytes.ensures in
    let why = lacks_at c.in_err-bytes.field-0.0 file offset (sym from.1) in
    told_later (λ was. (file ≡ c.args.log.now.file) × (offset ≡ c.args.span + 1) × IsTooLong (records_of was) c.args.log.now.read) _ _ _
    (c.next_length.ensures.asks.files c.args.log.now.file below).read
    (told_map _ _ (c.in_err-bytes.ensures.lacking offset (ap Err why.0)) (λ was now none. absurd none))

pub returns-clause-next : goal.returns-clause-next
returns-clause-next g c =
    let below : c.args.log.now.file < 4 = omega (arith, c.file-file.ensures.is, c.file-file.ensures.below) in
    told_later (λ was. slice_get (records_of was) c.args.log.now.read ≡ Some c.in_ok-bytes.bytes.items) _ _ _
    (c.next_length.ensures.asks.files c.args.log.now.file below).read c.in_ok-bytes.ensures.next

pub returns-in_err-bytes-clause-asks : goal.returns-in_err-bytes-clause-asks
returns-in_err-bytes-clause-asks g c = asks_both c.next_length.ensures.asks c.read_record.ensures.asks

pub returns-clause-asks : goal.returns-clause-asks
returns-clause-asks g c = asks_both c.next_length.ensures.asks c.read_record.ensures.asks

pub returns-clause-passed : goal.returns-clause-passed
returns-clause-passed g c = record { left = (rw c.in-Some.is at c.in_ok-length.ensures.some).left; is = c.in_ok-bytes.ensures.passed }

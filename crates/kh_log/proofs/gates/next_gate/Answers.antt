use Rattle.std.proofs.Common.{◌<◌, length, ap, ◌∙◌, arith}
use Rattle.kh_log.specs.Records.{length_of}
use Rattle.kh_log.proofs.Headers.{lacks_header, lacks_bytes, open_header, rest_of}
use Rattle.kh_log.proofs.gates.next_gate.Goals as goal

pub returns-clause-open : goal.returns-clause-open
returns-clause-open c = λ bytes long is.
    let within : c.args.at < length bytes = omega (arith, c.requires.within, long) in
    open_header bytes c.args.at c.args.count c.record_length-length.result c.args.header.now is c.requires.header within c.if-header.false
    c.if-count-lt-HEADER.false (c.record_length-length.ensures.is ∙ ap length_of (rest_of c.args.header.now)) (omega (arith, long))

pub returns-then-count-lt-HEADER-clause-lacks : goal.returns-then-count-lt-HEADER-clause-lacks
returns-then-count-lt-HEADER-clause-lacks c = λ o same.
    (cc, λ bytes long is. lacks_header bytes c.args.at c.args.count c.args.header.now is c.requires.header (omega (arith, c.requires.within, long)) c.if-header.false c.if-count-lt-HEADER.true)

pub returns-then-len-at-clause-lacks : goal.returns-then-len-at-clause-lacks
returns-then-len-at-clause-lacks c = λ o same. (
  cc,
  λ bytes long is. lacks_bytes bytes c.args.at c.args.count c.record_length-length.result c.args.header.now is c.requires.header
      (omega (arith, c.requires.within, long)) c.if-header.false c.if-count-lt-HEADER.false (c.record_length-length.ensures.is ∙ ap length_of (rest_of c.args.header.now))
      (omega (arith, long)),
)
